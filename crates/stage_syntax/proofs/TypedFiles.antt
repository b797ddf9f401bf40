-- The kinds of `<` and `>` as they are typed.
use Rattle.std.proofs.Common.{◌≡◌, inl, inr, ℕ, Bool, true, List, [], ◌∷◌, map, refl, subst, ap, arith, Option, None}
use Rattle.std.specs.Prelude.{codes}
use Rattle.std.specs.Char.{to_ascii_lowercase}
use Rattle.std.specs.Option.{IfSome}
use Rattle.pipe_model.specs.declared.kind.Kind.{Kind}
use Rattle.pipe_model.specs.declared.kind.Kind.TheVariants as Kinds
use Rattle.pipe_model.specs.Proper.{is_name}
use Rattle.pipe_model.specs.Table.{line_of}
use Rattle.stage_syntax.proofs.PlainLines.{plain_line}
use Rattle.stage_syntax.proofs.ReadValues.{AreOfRow, IsOfOne, made_of_row}
use Rattle.stage_syntax.proofs.Typed.{IsOther, IsTyped, known}
use Rattle.stage_syntax.specs.DeviceForms.{before_name, file_in, of_name}
use Rattle.stage_syntax.specs.Forms.{row}
use Rattle.stage_syntax.specs.Rows.{Reads}
use Rattle.argument_parts.specs.declared.part.Part.TheVariants as Asked
use Rattle.argument_parts.specs.declared.part.Value.{Value}
use Rattle.argument_parts.specs.declared.part.Value.TheVariants as Read

-- a name that was read is one of a file
name_of_one : (name : List ℕ) → IsOfOne (Asked.Name ∷ []) (Read.String name) → is_name name ≡ true
name_of_one name (inl is) = let value = is.1 in let same : is.0 ≡ name = cc in subst (λ (name : List ℕ). is_name name ≡ true) same is.2
name_of_one name (inr is) = absurd is

-- the name of `<` has one spelling
pub one_spelling : (name : List ℕ) → map to_ascii_lowercase name ≡ codes "<" → name ≡ codes "<"
one_spelling [] is = cc
one_spelling (c ∷ []) is = let lowered : to_ascii_lowercase c ≡ 60 = cc in ap (λ x. x ∷ []) (grind (arith, lowered))
one_spelling (c ∷ (d ∷ rest)) is = cc

module _ (first : Bool) where
  pub replacing : (values : List Value) → AreOfRow (row before_name (of_name Kinds.FileOut)) [] values → IfSome (of_name Kinds.FileOut values) (IsOther first)
  replacing [] are = tt
  replacing (Read.String name ∷ []) are = known first (Kinds.FileOut name) refl (name_of_one name are.0)
  replacing _ are = tt

  reading : (values : List Value) → AreOfRow (row before_name (of_name (λ name. Kinds.FileIn name None))) [] values → IfSome (of_name (λ name. Kinds.FileIn name None) values) (IsTyped first)
  reading [] are = tt
  reading (Read.String name ∷ []) are = record {
    plain = plain_line first (line_of (Kinds.FileIn name None)) refl;
    proper = name_of_one name are.0;
    unfiled = refl;
  }
  reading _ are = tt

  -- a `<` that was read
  pub file_typed : (text : List ℕ) (kind : Kind) → Reads file_in text kind → IsTyped first kind
  file_typed text kind reads =
      let made = made_of_row (row before_name (of_name (λ name. Kinds.FileIn name None))) text kind reads in
      subst (λ (o : Option Kind). IfSome o (IsTyped first)) made.1 (reading made.0 made.2)
