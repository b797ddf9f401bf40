-- Which stages write only what the record at hand causes, before they take it.
use Rattle.std.specs.Prelude.{◌≡◌, true, false, codes, refl}
use Rattle.std.specs.declared.option.Option.TheVariants.{None}
use Rattle.pipe_model.specs.declared.kind.Kind.TheVariants.{FileIn, FileOut, Literal, Hole, Locate, TakeFirst, TakeLast, ToLabel, Chop, Join, Duplicate, Buffer}
use Rattle.pipe_model.specs.declared.kind.Times.TheVariants.{Only, All}
use Rattle.pipe_model.specs.Straight.{all_columns}
use Rattle.pipe_model.specs.Table.{form}
use Rattle.row_examples.specs.Acts.{strand, both}

-- LOCATE
locate : (form (strand (Locate all_columns None) both)).thin ≡ true
locate = refl

-- TAKE FIRST, which may stop
take_first : (form (strand (TakeFirst (Only 1)) both)).thin ≡ true
take_first = refl

-- TOLABEL, which may end at the sight of a record
to_label : (form (strand (ToLabel (codes "a")) both)).thin ≡ true
to_label = refl

-- CHOP, with two pairs for a record
chop : (form (strand (Chop 1) both)).thin ≡ true
chop = refl

-- HOLE, with none
hole : (form (strand Hole both)).thin ≡ true
hole = refl

-- DUPLICATE without end
duplicate : (form (strand (Duplicate All) both)).thin ≡ true
duplicate = refl

-- `>`, which no refusal ends
file_out : (form (strand (FileOut (codes "a")) both)).thin ≡ true
file_out = refl

-- LITERAL writes before it has seen a record
literal : (form (strand (Literal (codes "a")) both)).thin ≡ false
literal = refl

-- TAKE LAST writes what was taken before
take_last : (form (strand (TakeLast (Only 1)) both)).thin ≡ false
take_last = refl

-- JOIN writes when it has taken
join : (form (strand (Join (Only 0) (codes "")) both)).thin ≡ false
join = refl

-- BUFFER writes at the end
buffer : (form (strand Buffer both)).thin ≡ false
buffer = refl

-- `<` reads nothing
file_in : (form (strand (FileIn (codes "a") None) both)).thin ≡ false
file_in = refl
