use Rattle.std.proofs.Common.{◌∙◌, refl}
use denote.Param.Object.{read_made}
use Rattle.tests_orders.specs.contracts.watch_tests.in_order.dyn-1.{Members}
use Rattle.tests_orders.proofs.watch_tests.under_watches.OwnLists.{own-1, at-1-1, at-1-2, at-1-3, at-1-4}
use Rattle.tests_orders.proofs.watch_tests.under_watches.Goals as goal

-- what a boxed watch has found is what the watch had found before it was boxed
pub in_order-requires-clause-relations : goal.in_order-requires-clause-relations
in_order-requires-clause-relations c =
    read_made {G = Members} own-1 (own-1.entry at-1-1) at-1-1 refl _ (λ j y. j.1.state y) c.into_dyn_box.result.vtable c.into_dyn_box.result.value
    c.in_ok-relations.relations.value c.into_dyn_box.ensures.1 ∙ c.in_ok-relations.ensures.ok ∙ c.new.ensures

pub in_order-requires-clause-stores : goal.in_order-requires-clause-stores
in_order-requires-clause-stores c =
    read_made {G = Members} own-1 (own-1.entry at-1-2) at-1-2 refl _ (λ j y. j.1.state y) c.into_dyn_box-2.result.vtable c.into_dyn_box-2.result.value
    c.in_ok-stores.stores.value c.into_dyn_box-2.ensures.1 ∙ c.in_ok-stores.ensures.ok ∙ c.new-3.ensures

pub in_order-requires-clause-returns : goal.in_order-requires-clause-returns
in_order-requires-clause-returns c =
    read_made {G = Members} own-1 (own-1.entry at-1-3) at-1-3 refl _ (λ j y. j.1.state y) c.into_dyn_box-3.result.vtable c.into_dyn_box-3.result.value
    c.in_ok-returns.returns.value c.into_dyn_box-3.ensures.1 ∙ c.in_ok-returns.ensures.ok ∙ c.new-5.ensures

pub in_order-requires-clause-code : goal.in_order-requires-clause-code
in_order-requires-clause-code c =
    read_made {G = Members} own-1 (own-1.entry at-1-4) at-1-4 refl _ (λ j y. j.1.state y) c.into_dyn_box-4.result.vtable c.into_dyn_box-4.result.value
    c.in_ok-code.code.value c.into_dyn_box-4.ensures.1 ∙ c.in_ok-code.ensures.ok ∙ c.new-7.ensures
