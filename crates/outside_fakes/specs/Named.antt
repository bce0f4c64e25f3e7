-- Files in memory, each with a name. Where two have one name, the first counts.
--
--   is_named name file           the file has this name
--   first_named files name       the first file with this name
--   contents_named files name    its contents, told where there is such a file
--   faults_named files n name    its count of faults, and n where there is no such file
--   counted_named files name     the files, with one more fault in the first that has this name
use Rattle.std.specs.Prelude.{ℕ, Bool, List, [], ◌∷◌, Option, find, option_map, bytes_eq, string_bytes, if◌then◌else◌}
use Rattle.std.specs.Option.{option_map_or}
use Rattle.outside.specs.Counts.{one_more}
use Rattle.outside_fakes.specs.declared.mem_file.MemFile.{MemFile}

abbrev pub is_named : List ℕ → MemFile → Bool
is_named name file = bytes_eq (string_bytes file.name) name

abbrev pub first_named : List MemFile → List ℕ → Option MemFile
first_named files name = find (is_named name) files

abbrev pub contents_named : List MemFile → List ℕ → Option (List ℕ)
contents_named files name = option_map (λ f. f.contents.items) (first_named files name)

abbrev pub faults_named : List MemFile → ℕ → List ℕ → ℕ
faults_named files n name = option_map_or (λ f. f.faults) (first_named files name) n

abbrev pub counted_named : List MemFile → List ℕ → List MemFile
counted_named [] name = []
counted_named (f ∷ fs) name =
    if is_named name f then record f { faults = one_more f.faults } ∷ fs else f ∷ counted_named fs name
