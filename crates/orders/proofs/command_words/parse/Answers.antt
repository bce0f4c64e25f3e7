use Rattle.orders.proofs.WordsRead.{refused_words, taken_words}
use Rattle.orders.proofs.command_words.parse.Goals as goal

pub returns-in-Ok : goal.returns-in-Ok
returns-in-Ok c = taken_words _ _ c.in-Ok.matches c.requires (c.in-Ok.ensures.kinds c.requires) c.in-Ok.ensures.matches

pub returns : goal.returns
returns c = refused_words _ _ c.in-Err.error (λ e. let memory = c.is_memory.ensures.1 e in cc) (c.in-Err.ensures.kinds c.requires)
