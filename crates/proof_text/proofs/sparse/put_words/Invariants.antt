-- What is put so far and what the items to come put is what all of them put.
use Rattle.std.proofs.Common.{◌≡◌, drop, length}
use Rattle.proof_text.specs.Sparse.{dense_over}
use Rattle.proof_text.proofs.sparse.put_words.Given as goal

abbrev pub invariant-loop-item : goal.invariant-loop-item
invariant-loop-item l =
    (length l.words ≡ length l.initial.words) × (dense_over l.words (drop l.item-index l.items) ≡ dense_over l.initial.words l.items)
