use Rattle.argument_parts.proofs.taken.part_at.Goals as goal

pub returns-in-Range-clause-read : goal.returns-in-Range-clause-read
returns-in-Range-clause-read c = rw c.in-Range.is c.range_at.ensures.read

pub returns-in-Columns-clause-read : goal.returns-in-Columns-clause-read
returns-in-Columns-clause-read c = rw c.in-Columns.is c.columns_at.ensures.read

pub returns-in-String-clause-read : goal.returns-in-String-clause-read
returns-in-String-clause-read c = rw c.in-String.is c.string_at.ensures.read

pub returns-in-AnyString-clause-read : goal.returns-in-AnyString-clause-read
returns-in-AnyString-clause-read c = rw c.in-AnyString.is c.any_string_at.ensures.read

pub returns-in-Strings-clause-read : goal.returns-in-Strings-clause-read
returns-in-Strings-clause-read c = rw c.in-Strings.is c.strings_at.ensures.read

pub returns-in-Byte-clause-read : goal.returns-in-Byte-clause-read
returns-in-Byte-clause-read c = rw c.in-Byte.is c.byte_at.ensures.read

pub returns-in-Number-clause-read : goal.returns-in-Number-clause-read
returns-in-Number-clause-read c = rw c.in-Number.is c.number_at.ensures.read

pub returns-in-Times-clause-read : goal.returns-in-Times-clause-read
returns-in-Times-clause-read c = rw c.in-Times.is c.times_at.ensures.read

pub returns-in-Word-clause-read : goal.returns-in-Word-clause-read
returns-in-Word-clause-read c = rw c.in-Word.is c.word_at.ensures.read

pub returns-in-Counter-clause-read : goal.returns-in-Counter-clause-read
returns-in-Counter-clause-read c = rw c.in-Counter.is c.counter_at.ensures.read

pub returns-in-Whole-clause-read : goal.returns-in-Whole-clause-read
returns-in-Whole-clause-read c = rw c.in-Whole.is c.whole_at.ensures.read

pub returns-in-Spot-clause-read : goal.returns-in-Spot-clause-read
returns-in-Spot-clause-read c = rw c.in-Spot.is c.spot_at.ensures.read
