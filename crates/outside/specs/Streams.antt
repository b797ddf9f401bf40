-- What the answers of std's readers and writers are told as.
use Rattle.std.specs.Prelude.{ℕ, ◌==◌, if◌then◌else◌}
use Rattle.std.specs.declared.result.Result.{Result}
use Rattle.std.specs.declared.result.Result.TheVariants.{Ok, Err}
use Rattle.outside.specs.declared.source.ReadAnswer.{ReadAnswer}
use Rattle.outside.specs.declared.source.ReadAnswer.TheVariants as read
use Rattle.outside.specs.declared.sink.WriteAnswer.{WriteAnswer}
use Rattle.outside.specs.declared.sink.WriteAnswer.TheVariants as write

-- a read of no byte is the end, and an error is a fault
abbrev pub read_told : {E : Type 0} → Result ℕ E → ReadAnswer
read_told (Ok n) = if n == 0 then read.End else read.Bytes n
read_told (Err e) = read.Failed

-- a write of no byte is a fault, as an error is
abbrev pub write_told : {E : Type 0} → Result ℕ E → WriteAnswer
write_told (Ok n) = if n == 0 then write.Failed else write.Took n
write_told (Err e) = write.Failed
