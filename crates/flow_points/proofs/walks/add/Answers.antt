use Rattle.std.proofs.Common.{rules, ◌≡◌, false, true, length, is_some, refl, ◌∙◌}
use Rattle.std.specs.Map.{lookup}
use Rattle.std.proofs.lemmas.Map.Views.{Contains-keys_from_lookup}
use Rattle.indexmap.specs.IndexMap.{insert_entry}
use Rattle.indexmap.proofs.CallerLemmas.{insert_entry-new}
use Rattle.flow_points.specs.Sites.{too_many}
use Rattle.flow_points.specs.Walks.{most_points, point}
use Rattle.flow_points.specs.Causes.{same_point}
use Rattle.flow_points.proofs.SamePoint.{same}
use Rattle.flow_points.proofs.Lists.{no_value}
use Rattle.flow_points.proofs.Reaching.{more_points, new_there, one_more}
use Rattle.flow_points.proofs.walks.add.Goals as goal

pub returns-then-contains_key-clause-there : goal.returns-then-contains_key-clause-there
returns-then-contains_key-clause-there c =
    let found : is_some (lookup (same_point (point c.args.proc_entry c.args.address)) c.args.sites.now.entries) ≡ true = cc in
    Contains-keys_from_lookup same (point c.args.proc_entry c.args.address) c.args.sites.now.entries found

pub returns-then-len-eq-MOST_POINTS-clause-stop : goal.returns-then-len-eq-MOST_POINTS-clause-stop
returns-then-len-eq-MOST_POINTS-clause-stop c =
    let absent : is_some (lookup (same_point (point c.args.proc_entry c.args.address)) c.args.sites.now.entries) ≡ false = cc in
    let full : length c.args.sites.now.entries ≡ most_points = search rules in
    too_many (more_points _ _ _ (point c.args.proc_entry c.args.address) c.requires.sites c.len.ensures.unique absent full c.requires.reached) refl

pub returns-in-Ok-clause-adds : goal.returns-in-Ok-clause-adds
returns-in-Ok-clause-adds c =
    let room : length c.args.sites.now.entries ≡ most_points → ⊥ = search rules in
    let put : c.insert.new.self.entries ≡ insert_entry same_point c.args.sites.now.entries (point c.args.proc_entry c.args.address) c.site_at.result = c.in-Ok.ensures.entries in
    let absent : is_some (lookup (same_point (point c.args.proc_entry c.args.address)) c.args.sites.now.entries) ≡ false = cc in
    one_more _ _ _ _ (point c.args.proc_entry c.args.address) c.site_at.result c.requires.sites room c.requires.reached c.site_at.ensures
    (put ∙ insert_entry-new same_point c.args.sites.now (point c.args.proc_entry c.args.address) c.site_at.result (no_value _ absent))

pub returns-in-Ok-clause-there : goal.returns-in-Ok-clause-there
returns-in-Ok-clause-there c =
    let put : c.insert.new.self.entries ≡ insert_entry same_point c.args.sites.now.entries (point c.args.proc_entry c.args.address) c.site_at.result = c.in-Ok.ensures.entries in
    let absent : is_some (lookup (same_point (point c.args.proc_entry c.args.address)) c.args.sites.now.entries) ≡ false = cc in
    new_there c.args.sites.now.entries _ (point c.args.proc_entry c.args.address) c.site_at.result
    (put ∙ insert_entry-new same_point c.args.sites.now (point c.args.proc_entry c.args.address) c.site_at.result (no_value _ absent))
