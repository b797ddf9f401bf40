use Rattle.argument_parts.proofs.OneBytes.{decoded_other}
use Rattle.argument_parts.proofs.bytes.byte_of.Goals as goal

pub returns-in-Err : goal.returns-in-Err
returns-in-Err c = decoded_other c.args.digits.now c.decode_to_slice.new.out c.decode_to_slice.result c.decode_to_slice.ensures.value _ c.in-Err.is
