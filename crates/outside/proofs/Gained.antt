-- What a sink gained.
use Rattle.std.proofs.Common.{◌≡◌, ℕ, ◌≤◌, ◌+◌, ◌-◌, List, ◌++◌, Option, Some, None, length, take, drop, arith}
use Rattle.std.proofs.lemmas.Grind.{common_steps}
use Rattle.std.proofs.lemmas.List.{take_rest, take-append-drop, drop-take, take-take}
use Rattle.outside.specs.Written.{Gains}

-- one text and then another
gains_both : (old middle new : Option (List ℕ)) (xs ys : List ℕ) →
    Gains old middle xs → Gains middle new ys → Gains old new (xs ++ ys)
gains_both None middle new xs ys first second = cc
gains_both (Some w) middle new xs ys first second = grind (arith, common_steps)

-- a front of a text and then a front of its rest
take_on : (text : List ℕ) (done n : ℕ) →
    take done text ++ take n (take (length text - done) (drop done text)) ≡ take (done + n) text
take_on text done n =
    let within : done ≤ done + n = omega arith in
    cc (take-append-drop done (take (done + n) text), drop-take done n text, take-take done (done + n) text within, take_rest text done)

pub gains_front : (old middle new : Option (List ℕ)) (text : List ℕ) (done n : ℕ) →
    Gains old middle (take done text) → Gains middle new (take n (take (length text - done) (drop done text))) →
    Gains old new (take (done + n) text)
gains_front old middle new text done n first second =
    rw (← take_on text done n) (gains_both old middle new _ _ first second)
