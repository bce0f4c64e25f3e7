use Rattle.std.proofs.Common.{◌≡◌, Some, None, position, arith}
use Rattle.outside_fakes.specs.Named.{is_named}
use Rattle.outside_fakes.proofs.NamedFiles.{absent, present}
use Rattle.outside_fakes.proofs.clean.CleanFilesFiles.read.Goals as goal

pub returns-in-Some-clause-count : goal.returns-in-Some-clause-count
returns-in-Some-clause-count c =
    let place : position (is_named c.args.name.now) c.args.self.now.files.items ≡ Some c.in-Some.i = cc in
    rw (present _ _ _ _ place c.index.ensures) (grind arith)

pub returns-in-Some-clause-bytes : goal.returns-in-Some-clause-bytes
returns-in-Some-clause-bytes c =
    let place : position (is_named c.args.name.now) c.args.self.now.files.items ≡ Some c.in-Some.i = cc in
    rw (present _ _ _ _ place c.index.ensures) (grind arith)

pub returns-in-None-clause-count : goal.returns-in-None-clause-count
returns-in-None-clause-count c =
    let place : position (is_named c.args.name.now) c.args.self.now.files.items ≡ None = cc in
    rw (absent _ _ place) (grind arith)
