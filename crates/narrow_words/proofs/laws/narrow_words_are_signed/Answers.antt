use Rattle.narrow_words.proofs.Words.{narrow_words_signed}
use Rattle.narrow_words.proofs.laws.narrow_words_are_signed.Goals as goal

pub returns : goal.returns
returns c = narrow_words_signed
