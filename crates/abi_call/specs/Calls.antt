-- How a call of the program ends.
--
--   usage_text                         how it is called
--   IsUsage status text                what words get that ask for no check
--   form_of lines why                  the form of a text: lines, or text for people, with reasons or without
--   IsCarriedOut check call answer     a file's bytes are answered, as is asked for; where no check is asked for, it is told how
use Rattle.std.specs.Prelude.{◌≡◌, ℕ, Bool, true, false, List, codes, Option, Some, None}
use Rattle.call_ends.specs.Calls.{Call, Ends, EndsOver}
use Rattle.orders.specs.Checks.{Check}
use Rattle.abi_answers.specs.declared.forms.Form.{Form}
use Rattle.abi_answers.specs.declared.forms.Form.TheVariants.{Lines, People}
use Rattle.abi_answers.specs.Answers.{IsAnswerTo}

abbrev pub usage_text : List ℕ
usage_text = codes "usage:\nabi-check FILE [--entry NAME|ADDRESS] [--lines | --why]\n"

pub record IsUsage (status : ℕ) (text : List ℕ) : Type 0 where
  pub status_is : status ≡ 2
  pub text_is : text ≡ usage_text

abbrev pub form_of : Bool → Bool → Form
form_of true why = Lines
form_of false why = People why

abbrev pub IsCarriedOut : Option Check → Call → ℕ → Type 0
IsCarriedOut (Some check) c answer = EndsOver check.file (IsAnswerTo (form_of check.lines check.why) check.file check.entry) c answer
IsCarriedOut None c answer = Ends IsUsage ⊥ c answer
