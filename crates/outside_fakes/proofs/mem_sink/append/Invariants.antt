-- What was pushed so far is the front of the bytes, and the room is as it was.
use Rattle.std.proofs.Common.{◌≡◌, ◌+◌, ◌++◌, take, vec_capacity, vec_len}
use Rattle.outside_fakes.proofs.mem_sink.append.Given as goal

abbrev pub invariant-loop-byte : goal.invariant-loop-byte
invariant-loop-byte l = record {
  items : l.written.items ≡ l.fn.written.items ++ take l.byte-index l.bytes;
  length : vec_len l.written ≡ vec_len l.fn.written + l.byte-index;
  room : vec_capacity l.written ≡ vec_capacity l.fn.written;
}
