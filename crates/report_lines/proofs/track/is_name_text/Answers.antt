use Rattle.std.proofs.Common.{rules}
use Rattle.report_lines.proofs.Cuts.{no_cut}
use Rattle.report_lines.proofs.track.is_name_text.Goals as goal

pub returns-in-Some : goal.returns-in-Some
returns-in-Some c =
    let cut = c.in-Some.field-0 in
    (λ h. absurd (search rules), λ h. absurd (no_cut 32 c.args.text.now cut.0.now cut.1.now h.1 c.in-Some.ensures.1 c.in-Some.ensures.0))
