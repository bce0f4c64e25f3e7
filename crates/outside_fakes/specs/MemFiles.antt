-- Files in memory as a whole.
--
--   contents_of m name    the contents of a name, told where there is a file of this name
--   faults_of m name      the count of a name: of its first file, or the one that all absent names share
use Rattle.std.specs.Prelude.{ℕ, List, Option}
use Rattle.outside_fakes.specs.Named.{contents_named, faults_named}
use Rattle.outside_fakes.specs.declared.mem_files.MemFiles.{MemFiles}

abbrev pub contents_of : MemFiles → List ℕ → Option (List ℕ)
contents_of m name = contents_named m.files.items name

abbrev pub faults_of : MemFiles → List ℕ → ℕ
faults_of m name = faults_named m.files.items m.faults name
