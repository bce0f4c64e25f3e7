use Rattle.order_words.proofs.Plain.{plain_taken}
use Rattle.order_words.proofs.Taken.{number_taken, texts_taken}
use Rattle.order_words.proofs.Usages.{usages}
use Rattle.order_words.proofs.laws.words_are_orders.Goals as goal

pub returns-clause-texts : goal.returns-clause-texts
returns-clause-texts c = λ file list report at row. texts_taken file list report at row

pub returns-clause-numbers : goal.returns-clause-numbers
returns-clause-numbers c = λ text n file list report regs is. number_taken text n file list report regs is

pub returns-clause-plain : goal.returns-clause-plain
returns-clause-plain c = λ file list first second. plain_taken file list first second

pub returns-clause-others : goal.returns-clause-others
returns-clause-others c = usages
