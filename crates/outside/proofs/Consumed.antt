-- What a read gave of contents that are told.
use Rattle.std.proofs.Common.{◌≡◌, ℕ, ◌<◌, ◌≤◌, ◌+◌, ◌-◌, ◌∙◌, List, Option, Some, None, length, take, drop, sym, ap, subst, arith, length-drop, length-take-le, take_at, drop_at, drop-drop}
use Rattle.std.specs.Io.KnownBytes.{Consumes, IsAtEnd}
use Rattle.outside.specs.Streams.{IsAt, IsReadAt}

-- contents that are told
of_told : (c : List ℕ) (left : Option (List ℕ)) (at n : ℕ) (bytes : List ℕ) → n ≤ length bytes →
    Consumes (Some (drop at c)) left (take n bytes) → (n ≡ 0 → 0 < length bytes → IsAtEnd left) →
    IsReadAt (Some c) at n bytes left (at + n)
of_told c None at n bytes fits taken ends = absurd taken
of_told c (Some ys) at n bytes fits taken ends =
    let count : length (take n bytes) ≡ n = length-take-le n bytes fits in
    let rest : ys ≡ drop (at + n) c =
    sym (drop_at (take n bytes) ys n count) ∙ ap (drop n) (sym taken) ∙ drop-drop n at c in
    record {
      front = sym (take_at (take n bytes) ys n count) ∙ ap (take n) (sym taken);
      none_left = λ none room.
          let gone : length c - (at + n) ≡ 0 =
          sym (length-drop (at + n) c) ∙ ap length (sym rest ∙ ends none room) in
          omega (arith, gone, none);
      stands = ap Some rest;
    }

pub of_read : (whole old left : Option (List ℕ)) (at n : ℕ) (bytes : List ℕ) → n ≤ length bytes →
    IsAt whole old at → Consumes old left (take n bytes) → (n ≡ 0 → 0 < length bytes → IsAtEnd left) →
    IsReadAt whole at n bytes left (at + n)
of_read None old left at n bytes fits stood taken ends = record { front = tt; none_left = λ none room. tt; stands = tt }
of_read (Some c) old left at n bytes fits stood taken ends =
    of_told c left at n bytes fits (subst (λ l. Consumes l left (take n bytes)) stood taken) ends
