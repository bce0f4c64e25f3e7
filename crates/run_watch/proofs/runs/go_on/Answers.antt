use Rattle.std.proofs.Common.{◌++◌}
use Rattle.run_watch.proofs.Going.{begins_on, fewer, on_quietly, turned, stopped}
use Rattle.run_watch.proofs.Seeing.{seen_none, seen_quietly, seen_then}
use Rattle.run_watch.proofs.runs.go_on.Goals as goal

pub loop-machine-init : goal.loop-machine-init
loop-machine-init g c = (begins_on _ _ _ _ _ (λ w. seen_none _ _) c.requires.few c.requires.within, c.requires.marked)

pub returns-in-Some : goal.returns-in-Some
returns-in-Some g c =
    let t = c.in_ok-stop.ensures.turned in
    let is = on_quietly _ _ _ _ _ _ _ _ (λ xs ys x y z. seen_then xs ys _ _ _ _ _ _) (λ seen w. seen_quietly seen _ _) c.loop-machine.invariant.0
    c.in_ok-go_unseen.ensures in
    let s = stopped _ _ _ _ _ _ t.0 _ c.in-Some.stop _ _ _ (λ xs ys x y z. seen_then xs ys _ _ _ _ _ _) c.in-Some.is is t.1 t.2 in
    (is.seen ++ t.0, s.0, s.1)

pub loop-machine-preserved : goal.loop-machine-preserved
loop-machine-preserved g c =
    let t = c.in_ok-stop.ensures.turned in
    let is = on_quietly _ _ _ _ _ _ _ _ (λ xs ys x y z. seen_then xs ys _ _ _ _ _ _) (λ seen w. seen_quietly seen _ _) c.loop-machine.invariant.0
    c.in_ok-go_unseen.ensures in
    let now = turned _ _ _ _ _ _ t.0 _ _ _ _ (λ xs ys x y z. seen_then xs ys _ _ _ _ _ _) c.in_default.is is t.1 t.2 in
    (now.0, c.in_ok-stop.ensures.marked)

pub loop-machine-smaller : goal.loop-machine-smaller
loop-machine-smaller g c =
    let t = c.in_ok-stop.ensures.turned in
    let is = on_quietly _ _ _ _ _ _ _ _ (λ xs ys x y z. seen_then xs ys _ _ _ _ _ _) (λ seen w. seen_quietly seen _ _) c.loop-machine.invariant.0
    c.in_ok-go_unseen.ensures in
    let now = turned _ _ _ _ _ _ t.0 _ _ _ _ (λ xs ys x y z. seen_then xs ys _ _ _ _ _ _) c.in_default.is is t.1 t.2 in
    fewer _ _ _ _ c.in_ok-go_unseen.ensures.onward now.1 now.2
