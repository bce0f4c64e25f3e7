use Rattle.std.proofs.Common.{◌≡◌, Contains}
use Rattle.std.proofs.lemmas.List.Elements.{All-contains}
use Rattle.word_rows.specs.Rows.{dot}
use Rattle.row_modules.proofs.Laws.{generator}
use Rattle.row_modules.proofs.Laws.{vanishes_on_module}
use Rattle.lead_basis.proofs.Leading.{basis_rows}
use Rattle.lead_basis.proofs.Remains.{empty_span}
use Rattle.lead_basis.proofs.Uniqueness.{no_rows, unique_reduced}
use Rattle.lead_basis.proofs.meaning.bases_tell_their_modules.Goals as goal

pub returns-clause-generators : goal.returns-clause-generators
returns-clause-generators c = λ n rows b. record {
  inside = λ v h. generator n (Contains rows) (basis_rows n rows b) v h;
  all = λ v m. m;
}

pub returns-clause-forms : goal.returns-clause-forms
returns-clause-forms c = λ n rows a b zeros. vanishes_on_module n (Contains rows) (basis_rows n rows b) a (λ v h. All-contains (λ r. dot a r ≡ 0) rows v zeros h)

pub returns-clause-no_rows : goal.returns-clause-no_rows
returns-clause-no_rows c = λ n rows b. (λ e v m. empty_span n v (rw e at m), λ h. no_rows n rows b h)

pub returns-clause-one_reduced : goal.returns-clause-one_reduced
returns-clause-one_reduced c = λ n rows others b d r s same. unique_reduced n rows others b d r s same
