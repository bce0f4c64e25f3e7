use Rattle.std.proofs.Common.{◌≡◌, Some, None, position, arith, sym}
use Rattle.std.proofs.lemmas.Bool.{false≢true}
use Rattle.outside_fakes.specs.Named.{is_named}
use Rattle.outside_fakes.proofs.NamedFiles.{absent, present, recounted, counts_one}
use Rattle.outside_fakes.proofs.CountedFiles.{counts_none, counts_first}
use Rattle.outside_fakes.proofs.mem_files.MemFilesFiles.read.Goals as goal

pub returns-in_default-clause-cause : goal.returns-in_default-clause-cause
returns-in_default-clause-cause c =
    let place : position (is_named c.args.name.now) c.args.self.now.files.items ≡ None = cc in
    rw (absent _ _ place) (grind arith)

pub returns-in_default-clause-absent_stay : goal.returns-in_default-clause-absent_stay
returns-in_default-clause-absent_stay c =
    let place : position (is_named c.args.name.now) c.args.self.now.files.items ≡ None = cc in
    rw (absent _ _ place) (λ some. absurd (false≢true some))

pub returns-in_default-clause-files_counted : goal.returns-in_default-clause-files_counted
returns-in_default-clause-files_counted c =
    let place : position (is_named c.args.name.now) c.args.self.now.files.items ≡ None = cc in
    let files = c.args.self.now.files.items in
    sym (counts_none files c.args.name.now (absent files _ place))

pub returns-then-failing-clause-files_counted : goal.returns-then-failing-clause-files_counted
returns-then-failing-clause-files_counted c =
    let place : position (is_named c.args.name.now) c.args.self.now.files.items ≡ Some c.in-Some.i = cc in
    counts_first _ _ _ _ _ place c.index_mut.ensures.value c.count_fault.ensures.counted

pub returns-then-failing-clause-contents_stay : goal.returns-then-failing-clause-contents_stay
returns-then-failing-clause-contents_stay c =
    let place : position (is_named c.args.name.now) c.args.self.now.files.items ≡ Some c.in-Some.i = cc in
    (counts_one _ _ _ _ 0 c.count_fault.ensures.range
    (recounted _ _ _ _ _ _ place c.index_mut.ensures.value c.count_fault.ensures.counted)).contents_stay

pub returns-then-failing-clause-cause : goal.returns-then-failing-clause-cause
returns-then-failing-clause-cause c =
    let place : position (is_named c.args.name.now) c.args.self.now.files.items ≡ Some c.in-Some.i = cc in
    (counts_one _ _ _ _ _ c.count_fault.ensures.range
    (recounted _ _ _ _ _ _ place c.index_mut.ensures.value c.count_fault.ensures.counted)).counted

pub returns-then-failing-clause-never_fall : goal.returns-then-failing-clause-never_fall
returns-then-failing-clause-never_fall c =
    let place : position (is_named c.args.name.now) c.args.self.now.files.items ≡ Some c.in-Some.i = cc in
    (counts_one _ _ _ _ _ c.count_fault.ensures.range
    (recounted _ _ _ _ _ _ place c.index_mut.ensures.value c.count_fault.ensures.counted)).never_fall

pub returns-then-failing-clause-others_stay : goal.returns-then-failing-clause-others_stay
returns-then-failing-clause-others_stay c other differs told =
    let place : position (is_named c.args.name.now) c.args.self.now.files.items ≡ Some c.in-Some.i = cc in
    (counts_one _ _ _ _ _ c.count_fault.ensures.range
    (recounted _ _ _ _ _ _ place c.index_mut.ensures.value c.count_fault.ensures.counted)).others_stay other differs

pub returns-clause-bytes : goal.returns-clause-bytes
returns-clause-bytes c =
    let place : position (is_named c.args.name.now) c.args.self.now.files.items ≡ Some c.in-Some.i = cc in
    rw (present _ _ _ _ place c.index.ensures) (grind arith)

pub returns-clause-count : goal.returns-clause-count
returns-clause-count c =
    let place : position (is_named c.args.name.now) c.args.self.now.files.items ≡ Some c.in-Some.i = cc in
    rw (present _ _ _ _ place c.index.ensures) (grind arith)

pub returns-in_default-clause-failing : goal.returns-in_default-clause-failing
returns-in_default-clause-failing c =
    let place : position (is_named c.args.name.now) c.args.self.now.files.items ≡ None = cc in
    rw (absent _ _ place) (grind arith)

pub returns-clause-failing : goal.returns-clause-failing
returns-clause-failing c =
    let place : position (is_named c.args.name.now) c.args.self.now.files.items ≡ Some c.in-Some.i = cc in
    rw (present _ _ _ _ place c.index.ensures) (grind arith)
