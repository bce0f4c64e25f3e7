-- What is loaded.
--
--   loaded_byte image a   the byte at the address a: that of the file in the stored part of a segment,
--                         0 in the rest of a segment, none elsewhere
--   loaded image a        the byte loaded at a, and 0 where no segment has a
--   code_at image a       the word and the length that are fetched at a
--   code_word image a     the little-endian word of the loaded bytes at a to a + 3, where these lie in
--                         one executable segment
--   IsWordAt image a w    the bytes loaded at a to a + 3, which end below 2^64, are those of the word w
use Rattle.std.specs.Prelude.{◌≡◌, ℕ, ◌+◌, ◌^◌, ◌≤◌, [], ◌∷◌, Option, Some, option_map}
use Rattle.std.specs.Int.{from_le_bytes, w32}
use Rattle.elf_image.specs.Segments.{byte_of, word_in, code_segment}
use Rattle.elf_image.specs.Fetches.{loaded_in, fetched_in}
use Rattle.elf_image.specs.declared.fetched.Fetched.{Fetched}
use Rattle.elf_image.specs.declared.image.Image.{Image}

abbrev pub loaded_byte : Image → ℕ → Option ℕ
loaded_byte image a = byte_of image.file image.segments a

abbrev pub loaded : Image → ℕ → ℕ
loaded image a = loaded_in image.file image.segments a

abbrev pub code_at : Image → ℕ → Option Fetched
code_at image a = fetched_in image.unit image.file image.segments a

abbrev pub code_word : Image → ℕ → Option ℕ
code_word image a = option_map (λ s. word_in image.file s a) (code_segment image.segments a)

pub record IsWordAt (image : Image) (a w : ℕ) : Type 0 where
  pub b0 : ℕ
  pub b1 : ℕ
  pub b2 : ℕ
  pub b3 : ℕ
  pub at0 : loaded_byte image a ≡ Some b0
  pub at1 : loaded_byte image (a + 1) ≡ Some b1
  pub at2 : loaded_byte image (a + 2) ≡ Some b2
  pub at3 : loaded_byte image (a + 3) ≡ Some b3
  pub word : w ≡ from_le_bytes w32 (b0 ∷ b1 ∷ b2 ∷ b3 ∷ [])
  pub ends : a + 4 ≤ 2 ^ 64
