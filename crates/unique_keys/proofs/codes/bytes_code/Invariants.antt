use Rattle.std.proofs.Common.{◌≡◌, drop}
use Rattle.unique_keys.specs.Inner.Codes.{bytes_code}
use Rattle.unique_keys.proofs.codes.bytes_code.Given as goal

-- the bytes that are left lead from the code so far to the code of all
abbrev pub invariant-loop-byte : goal.invariant-loop-byte
invariant-loop-byte l = bytes_code l.code (drop l.byte-index l.bytes) ≡ bytes_code 1 l.bytes
