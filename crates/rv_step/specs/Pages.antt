-- The memory of a machine, by the pages that it keeps.
--
--   page_size             the bytes of a page
--   byte_of memory a      the byte at the address a: that of its page, and 0 where no page is kept
--   HasPage memory a      the page of the address a is kept
use Rattle.std.specs.Prelude.{ℕ, ◌/◌, ◌%◌, option_map, slice_index, IsSome}
use Rattle.std.specs.Option.{unwrap_or}
use Rattle.std.specs.Ordering.{nat_cmp}
use Rattle.std.specs.BTreeMap.{get}
use Rattle.rv_step.specs.declared.pages.Pages.{Pages}

abbrev pub page_size : ℕ
page_size = 4096

abbrev pub byte_of : Pages → ℕ → ℕ
byte_of memory a = unwrap_or (option_map (λ page. slice_index page.value (a % page_size)) (get nat_cmp memory.pages (a / page_size))) 0

abbrev pub HasPage : Pages → ℕ → Type 0
HasPage memory a = IsSome (get nat_cmp memory.pages (a / page_size))
