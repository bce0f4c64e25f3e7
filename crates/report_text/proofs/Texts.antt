-- Tracked names have texts.
use Rattle.std.proofs.Common.{List, All, get_or}
use Rattle.report_text.specs.Names.{IsName, IsNarrowName, HasText}
use Rattle.report_text.specs.declared.names.Name.{Name}
use Rattle.report_text.specs.declared.names.Name.TheVariants.{Register, Slot}

name_has_text : (name : Name) → IsName name → HasText name
name_has_text (Register r) allowed = allowed.1
name_has_text (Slot p below) allowed = tt

narrow_name_has_text : (name : Name) → IsNarrowName name → HasText name
narrow_name_has_text (Register r) allowed = allowed.1
narrow_name_has_text (Slot p below) allowed = tt

pub names_have_texts : (names : List Name) → All IsName names → All HasText names
names_have_texts names allowed = λ k d below. name_has_text (get_or names k d) (allowed k d below)

pub narrow_names_have_texts : (names : List Name) → All IsNarrowName names → All HasText names
narrow_names_have_texts names allowed = λ k d below. narrow_name_has_text (get_or names k d) (allowed k d below)
