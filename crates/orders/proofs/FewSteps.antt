-- No order makes more steps than the greatest number.
use Rattle.std.proofs.Common.{◌≡◌, ℕ, List, [], ◌∷◌, Bool, true, false, Option, Some, None, if◌then◌else◌, refl, sym, subst}
use Rattle.std.specs.Prelude.{codes}
use Rattle.std.specs.Str.{bytes_eq}
use Rattle.std.specs.Str.Parse.{digits_value}
use Rattle.std.proofs.lemmas.Bool.{leb-true}
use Rattle.clap.specs.Words.{App}
use Rattle.clap.proofs.WalkLemmas.{both}
use Rattle.orders.specs.Orders.{Order, Usage, Analyse, Certify, ListCode, Upgrade, Narrow, Refute, HasFewSteps, count_of, file_command, generate_of, given_in, is_count, is_taken, most_count, order_of, refute_command, report_command, run_command, run_of, track_command, value_in, when_taken}

few_if : (b : Bool) (x y : Order) → HasFewSteps x → HasFewSteps y → HasFewSteps (if b then x else y)
few_if true x y few few_too = few
few_if false x y few few_too = few_too

few_generate : (n : Option ℕ) (list : List ℕ) → HasFewSteps (generate_of n list)
few_generate None list = tt
few_generate (Some n) list = tt

few_run : (text file report : List ℕ) (regs : Option (List ℕ)) → HasFewSteps (run_of (count_of text) file report regs)
few_run text file report regs = go (is_count text) refl
  where
    go : (b : Bool) → is_count text ≡ b → HasFewSteps (run_of (count_of text) file report regs)
    go true e =
        subst (λ b. HasFewSteps (run_of (if b then Some (digits_value 10 text) else None) file report regs)) (sym e)
        (leb-true (digits_value 10 text) most_count (both _ _ e).1)
    go false e = subst (λ b. HasFewSteps (run_of (if b then Some (digits_value 10 text) else None) file report regs)) (sym e) tt

few_taken : (app : App) (words : List (List ℕ)) (order : (List ℕ → List ℕ) → Order) → HasFewSteps (order (value_in app words)) →
    HasFewSteps (when_taken app words order)
few_taken app words order few = few_if (is_taken app words) (order (value_in app words)) Usage few tt

pub few_steps : (words : List (List ℕ)) → HasFewSteps (order_of words)
few_steps [] = tt
few_steps (command ∷ words) =
    let over = track_command command (codes "file") in
    let made = track_command command (codes "n") in
    let runs = run_command command in
    few_if (bytes_eq command (codes "analyse")) _ _ (few_taken over words (λ value. Analyse (value (codes "file")) (value (codes "track"))) tt)
    (few_if (bytes_eq command (codes "cert")) _ _ (few_taken over words (λ value. Certify (value (codes "file")) (value (codes "track"))) tt)
    (few_if (bytes_eq command (codes "list")) _ _ (few_taken (file_command command) words (λ value. ListCode (value (codes "file"))) tt)
    (few_if (bytes_eq command (codes "gen")) _ _
    (few_taken made words (λ value. generate_of (count_of (value (codes "n"))) (value (codes "track")))
    (few_generate (count_of (value_in made words (codes "n"))) (value_in made words (codes "track"))))
    (few_if (bytes_eq command (codes "run")) _ _
    (few_taken runs words (λ value. run_of (count_of (value (codes "steps"))) (value (codes "file")) (value (codes "report"))
    (given_in runs words (codes "regs")))
    (few_run (value_in runs words (codes "steps")) (value_in runs words (codes "file")) (value_in runs words (codes "report"))
    (given_in runs words (codes "regs"))))
    (few_if (bytes_eq command (codes "upgrade")) _ _
    (few_taken (report_command command) words (λ value. Upgrade (value (codes "file")) (value (codes "report"))) tt)
    (few_if (bytes_eq command (codes "narrow")) _ _ (few_taken over words (λ value. Narrow (value (codes "file")) (value (codes "track"))) tt)
    (few_if (bytes_eq command (codes "refute")) _ _
    (few_taken (refute_command command) words (λ value. Refute (value (codes "file")) (value (codes "track")) (value (codes "at")) (value (codes "row"))) tt)
    tt)))))))
