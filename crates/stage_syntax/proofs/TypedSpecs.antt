-- SPECS as it is typed: whatever arguments it reads make proper items, of which the first list has one at least, and the other no READ.
use Rattle.std.proofs.Common.{◌≡◌, ◌≢◌, inl, inr, ℕ, ◌≤◌, Bool, true, false, ◌&&◌, List, [], ◌∷◌, ◌++◌, length, refl, sym, ◌∙◌, subst, arith, append-nil, append_assoc, Option, Some, None, le-leb, length-append}
use Rattle.std.specs.Prelude.{⊤, is_some}
use Rattle.std.specs.List.{list_all}
use Rattle.std.specs.Option.{IfSome}
use Rattle.std.proofs.lemmas.List.Folds.{list_all-append}
use Rattle.std.proofs.lemmas.List.Sums.{fold-append}
use Rattle.pipe_model.specs.declared.items.Align.{Align}
use Rattle.pipe_model.specs.declared.items.Align.TheVariants as Aligns
use Rattle.pipe_model.specs.declared.items.Amount.TheVariants as Amounts
use Rattle.pipe_model.specs.declared.items.Convert.{Convert}
use Rattle.pipe_model.specs.declared.items.Convert.TheVariants as Converts
use Rattle.pipe_model.specs.declared.items.Item.{Item}
use Rattle.pipe_model.specs.declared.items.Item.TheVariants as Items
use Rattle.pipe_model.specs.declared.items.Origin.{Origin}
use Rattle.pipe_model.specs.declared.items.Origin.TheVariants as Origins
use Rattle.pipe_model.specs.declared.items.SetOp.{SetOp}
use Rattle.pipe_model.specs.declared.items.Spot.{Spot}
use Rattle.pipe_model.specs.declared.kind.Kind.TheVariants as Kinds
use Rattle.pipe_model.specs.Proper.{is_counter, is_item, is_origin, is_spot}
use Rattle.pipe_model.specs.SpecsRows.{reads}
use Rattle.stage_syntax.proofs.ReadValues.{AreOfRow, IsOfOne, is_proper, proper_of_one}
use Rattle.stage_syntax.proofs.Typed.{IsOther, known}
use Rattle.stage_syntax.specs.declared.item_lists.ItemState.{ItemState}
use Rattle.stage_syntax.specs.declared.item_lists.ItemState.TheVariants.{Front, Between, Printing, Putting, Placing, Padding, Setting, Counting, Giving, Numbering}
use Rattle.stage_syntax.specs.declared.item_parts.Due.TheVariants as Comes
use Rattle.argument_parts.specs.declared.part.Part.TheVariants as Asked
use Rattle.argument_parts.specs.declared.part.Value.{Value}
use Rattle.argument_parts.specs.declared.part.Value.TheVariants as Read
use Rattle.argument_parts.specs.declared.part.Word.TheVariants as Words
use Rattle.stage_syntax.specs.Forms.{row}
use Rattle.stage_syntax.specs.ItemForms.{Draft, align_of, before_specs, begun, draft_after, draft_of, due_of, given, items_before, lists_of, made_by, more, nothing_read, of_specs, op_of, others, parts_of, put, sources, with_field, with_item, with_op, with_state}
use Rattle.stage_syntax.specs.Rows.{Row}

-- Lists of items

reads_with : (items : List Item) (item : Item) → reads items ≡ 0 → reads (item ∷ []) ≡ 0 → reads (items ++ item ∷ []) ≡ 0
reads_with [] item none is = is
reads_with (Items.Read ∷ items) item none is = absurd (omega (arith, none))
reads_with (_ ∷ items) item none is = reads_with items item none is

-- the list before EOF, where that came, and the items behind it
abbrev IsBefore : Option (List Item) → List Item → Type 0
IsBefore None items = ⊤
IsBefore (Some before) items = (1 ≤ length before) × (list_all is_item before ≡ true) × (reads items ≡ 0)

record AreProper (before : Option (List Item)) (items : List Item) : Type 0 where
  each : list_all is_item items ≡ true
  before_eof : IsBefore before items

-- a READ is an item of the first list
abbrev MayFollow : Option (List Item) → Item → Type 0
MayFollow before item = is_some before ≡ true → reads (item ∷ []) ≡ 0

before_with : (before : Option (List Item)) (items : List Item) (item : Item) → IsBefore before items → MayFollow before item → IsBefore before (items ++ item ∷ [])
before_with None items item is may = tt
before_with (Some before) items item is may = (is.0, is.1, reads_with items item is.2 (may refl))

proper_with : (before : Option (List Item)) (items : List Item) (item : Item) → AreProper before items → is_item item ≡ true → MayFollow before item → AreProper before (items ++ item ∷ [])
proper_with before items item are is may = record {
  each = list_all-append is_item items (item ∷ []) ∙ rw (are.each, is) refl;
  before_eof = before_with before items item are.before_eof may;
}

-- What was read

-- what is known of the item that isn't whole, or of the list where none is begun
abbrev Stands : ItemState → Option (List Item) → List Item → Type 0
Stands Front before items = is_some before ≡ false
Stands Between before items = is_some before ≡ false → 1 ≤ length items
Stands (Putting origin strip convert) before items = is_origin origin ≡ true
Stands (Placing origin strip convert spot) before items = (is_origin origin && is_spot spot) ≡ true
Stands (Counting k) before items = is_counter k ≡ true
Stands (Giving k op) before items = is_counter k ≡ true
Stands (Numbering k op) before items = is_counter k ≡ true
Stands _ before items = ⊤

record IsSound (d : Draft) : Type 0 where
  lists : AreProper d.before d.items
  stands : Stands d.state d.before d.items

module _ (d : Draft) (lists : AreProper d.before d.items) where
  moved : (state : ItemState) → Stands state d.before d.items → IsSound (with_state state d)
  moved state stands = record { lists = lists; stands = stands }

  whole : (item : Item) → is_item item ≡ true → MayFollow d.before item → IsSound (with_item item d)
  whole item is may = record {
    lists = proper_with d.before d.items item lists is may;
    stands = λ first. omega (arith, length-append d.items (item ∷ []));
  }

-- the value may be the first of an item, or EOF
record MayBegin (before : Option (List Item)) (items : List Item) (value : Value) : Type 0 where
  reads : value ≡ Read.Word Words.Read → is_some before ≡ false
  ends : value ≡ Read.Word Words.Eof → 1 ≤ length items

module _ (d : Draft) (sound : IsSound d) where
  begun_sound : (value : Value) → is_proper value ≡ true → MayBegin d.before d.items value → IsSound (begun value d)
  begun_sound (Read.Range range) proper may = moved d sound.lists (Putting (Origins.Cut range) false None) proper
  begun_sound (Read.String string) proper may = moved d sound.lists (Putting (Origins.Text string) false None) refl
  begun_sound (Read.Word Words.Number) proper may = moved d sound.lists (Putting Origins.Number false None) refl
  begun_sound (Read.Word Words.Print) proper may = moved d sound.lists Printing tt
  begun_sound (Read.Word Words.Read) proper may = let first = may.reads refl in whole d sound.lists Items.Read refl (λ behind. cc)
  begun_sound (Read.Word Words.Write) proper may = whole d sound.lists Items.Write refl (λ behind. refl)
  begun_sound (Read.Word Words.Pad) proper may = moved d sound.lists Padding tt
  begun_sound (Read.Word Words.Set) proper may = moved d sound.lists Setting tt
  begun_sound (Read.Word Words.Eof) proper may = record {
    lists = record { each = refl; before_eof = (may.ends refl, sound.lists.each, refl) };
    stands = λ first. cc;
  }
  begun_sound _ proper may = sound

  put_sound : (origin : Origin) (strip : Bool) (convert : Option Convert) (value : Value) → is_origin origin ≡ true → is_proper value ≡ true → IsSound (put origin strip convert value d)
  put_sound origin strip convert (Read.Word Words.Strip) is proper = moved d sound.lists (Putting origin true convert) is
  put_sound origin strip convert (Read.Word Words.C2x) is proper = moved d sound.lists (Putting origin strip (Some Converts.C2x)) is
  put_sound origin strip convert (Read.Word Words.X2c) is proper = moved d sound.lists (Putting origin strip (Some Converts.X2c)) is
  put_sound origin strip convert (Read.Spot spot) is proper = moved d sound.lists (Placing origin strip convert spot) (rw (is, proper) refl)
  put_sound origin strip convert _ is proper = sound

  op_sound : (k : ℕ) (op : Option SetOp) → is_counter k ≡ true → IsSound (with_op k op d)
  op_sound k (Some op) few = moved d sound.lists (Giving k op) few
  op_sound k None few = sound

  given_sound : (k : ℕ) (op : SetOp) (value : Value) → is_counter k ≡ true → is_proper value ≡ true → IsSound (given k op value d)
  given_sound k op (Read.Whole number) few proper = whole d sound.lists (Items.Set k op (Amounts.Whole number)) (rw few refl) (λ behind. refl)
  given_sound k op (Read.Counter other) few proper = whole d sound.lists (Items.Set k op (Amounts.Counter other)) (rw (few, proper) refl) (λ behind. refl)
  given_sound k op (Read.Word Words.Num) few proper = moved d sound.lists (Numbering k op) few
  given_sound k op _ few proper = sound

-- a field that isn't aligned may be followed by EOF
field_sound : (d : Draft) → AreProper d.before d.items → (origin : Origin) (strip : Bool) (convert : Option Convert) (spot : Spot) (align : Option Align) (value : Value) → (is_origin origin && is_spot spot) ≡ true
    → is_proper value ≡ true → (value ≡ Read.Word Words.Read → is_some d.before ≡ false) → IsSound (with_field (Items.Field origin strip convert spot) align value d)
field_sound d lists origin strip convert spot (Some align) value is proper reads = whole d lists (Items.Field origin strip convert spot align) is (λ behind. refl)
field_sound d lists origin strip convert spot None value is proper reads =
    let field = Items.Field origin strip convert spot Aligns.Left in
    let may : MayBegin d.before (d.items ++ field ∷ []) value = record { reads = reads; ends = λ same. omega (arith, length-append d.items (field ∷ [])) } in
    begun_sound (with_item field d) (whole d lists field is (λ behind. refl)) value proper may

-- What may come next

-- behind EOF no item is READ, and no other EOF comes
behind_eof : (value : Value) → IsOfOne (items_before true) value → (value ≢ Read.Word Words.Read) × (value ≢ Read.Word Words.Eof)
behind_eof value (inl is) = let value = is.1 in (λ same. cc, λ same. cc)
behind_eof value (inr (inl is)) = (λ same. cc, λ same. cc)
behind_eof value (inr (inr (inl is))) = let value = is.1 in (λ same. cc, λ same. cc)
behind_eof value (inr (inr (inr (inl is)))) = (λ same. cc, λ same. cc)
behind_eof value (inr (inr (inr (inr (inl is))))) = (λ same. cc, λ same. cc)
behind_eof value (inr (inr (inr (inr (inr (inl is)))))) = (λ same. cc, λ same. cc)
behind_eof value (inr (inr (inr (inr (inr (inr (inl is))))))) = (λ same. cc, λ same. cc)
behind_eof value (inr (inr (inr (inr (inr (inr (inr is))))))) = absurd is

read_before : (behind : Bool) (value : Value) → IsOfOne (items_before behind) value → value ≡ Read.Word Words.Read → behind ≡ false
read_before false value is same = refl
read_before true value is same = absurd ((behind_eof value is).0 same)

eof_before : (behind : Bool) (value : Value) → IsOfOne (items_before behind) value → value ≡ Read.Word Words.Eof → behind ≡ false
eof_before false value is same = refl
eof_before true value is same = absurd ((behind_eof value is).1 same)

-- nor does EOF come first
eof_later : (value : Value) → IsOfOne (sources ++ Asked.Word Words.Read ∷ others) value → value ≢ Read.Word Words.Eof
eof_later value (inl is) same = let value = is.1 in cc
eof_later value (inr (inl is)) same = cc
eof_later value (inr (inr (inl is))) same = let value = is.1 in cc
eof_later value (inr (inr (inr (inl is)))) same = cc
eof_later value (inr (inr (inr (inr (inl is))))) same = cc
eof_later value (inr (inr (inr (inr (inr (inl is)))))) same = cc
eof_later value (inr (inr (inr (inr (inr (inr (inl is))))))) same = cc
eof_later value (inr (inr (inr (inr (inr (inr (inr (inl is)))))))) same = cc
eof_later value (inr (inr (inr (inr (inr (inr (inr (inr is)))))))) same = is

read_behind_field : (behind : Bool) (value : Value) → IsOfOne (parts_of Comes.Align behind) value → value ≡ Read.Word Words.Read → behind ≡ false
read_behind_field behind value (inl is) same = cc
read_behind_field behind value (inr (inl is)) same = cc
read_behind_field behind value (inr (inr (inl is))) same = cc
read_behind_field behind value (inr (inr (inr is))) same = read_before behind value is same

-- One more argument

more_sound : (state : ItemState) (value : Value) (d : Draft) → IsSound d → Stands state d.before d.items → is_proper value ≡ true → IsOfOne (parts_of (due_of state) (is_some d.before)) value → IsSound (more state value d)
more_sound Front value d sound stands proper is =
    begun_sound d sound value proper (record { reads = λ same. stands; ends = λ same. absurd (eof_later value is same) })
more_sound Between value d sound stands proper is =
    begun_sound d sound value proper (record { reads = read_before (is_some d.before) value is; ends = λ same. stands (eof_before (is_some d.before) value is same) })
more_sound Printing (Read.Counter k) d sound stands proper is = moved d sound.lists (Putting (Origins.Print k) false None) proper
more_sound (Putting origin strip convert) value d sound stands proper is = put_sound d sound origin strip convert value stands proper
more_sound (Placing origin strip convert spot) value d sound stands proper is =
    field_sound d sound.lists origin strip convert spot (align_of value) value stands proper (read_behind_field (is_some d.before) value is)
more_sound Padding (Read.Byte byte) d sound stands proper is = whole d sound.lists (Items.Pad byte) refl (λ behind. refl)
more_sound Setting (Read.Counter k) d sound stands proper is = moved d sound.lists (Counting k) proper
more_sound (Counting k) value d sound stands proper is = op_sound d sound k (op_of value) stands
more_sound (Giving k op) value d sound stands proper is = given_sound d sound k op value stands proper
more_sound (Numbering k op) (Read.Range range) d sound stands proper is = whole d sound.lists (Items.Set k op (Amounts.Number range)) (rw (stands, proper) refl) (λ behind. refl)
more_sound _ value d sound stands proper is = sound

abbrev specs_row : Row
specs_row = row before_specs of_specs

goes : (before values : List Value) → IsSound (draft_of before) → AreOfRow specs_row before values → IsSound (draft_of (before ++ values))
goes before [] sound are = subst (λ (all : List Value). IsSound (draft_of all)) (sym (append-nil before)) sound
goes before (value ∷ values) sound are =
    let d = draft_of before in
    let step : IsSound (draft_after d value) = more_sound d.state value d sound sound.stands (proper_of_one (before_specs before) value are.0) are.0 in
    let next : IsSound (draft_of (before ++ value ∷ [])) = subst IsSound (sym (fold-append draft_after nothing_read before (value ∷ []))) step in
    subst (λ (all : List Value). IsSound (draft_of all)) (append_assoc before (value ∷ []) values) (goes (before ++ value ∷ []) values next are.1)

-- What the arguments make

module _ (first : Bool) where
  lists_typed : (before : Option (List Item)) (items : List Item) → AreProper before items → (is_some before ≡ false → 1 ≤ length items) → IsOther first (lists_of before items)
  lists_typed None items are some = known first (Kinds.Specs items None) refl (rw (le-leb 1 (length items) (some refl), are.each) refl)
  lists_typed (Some before) items are some =
      let is = are.before_eof in
      known first (Kinds.Specs before (Some items)) refl (rw (le-leb 1 (length before) is.0, is.1, are.each, is.2) refl)

  made_typed : (state : ItemState) (d : Draft) → AreProper d.before d.items → Stands state d.before d.items → IfSome (made_by state d) (IsOther first)
  made_typed Between d lists stands = lists_typed d.before d.items lists stands
  made_typed (Placing origin strip convert spot) d lists stands =
      let field = Items.Field origin strip convert spot Aligns.Left in
      let sound = whole d lists field stands (λ behind. refl) in
      lists_typed d.before (d.items ++ field ∷ []) sound.lists sound.stands
  made_typed _ d lists stands = tt

  pub specifying : (values : List Value) → AreOfRow specs_row [] values → IfSome (of_specs values) (IsOther first)
  specifying values are =
      let sound = goes [] values (record { lists = record { each = refl; before_eof = tt }; stands = refl }) are in
      made_typed (draft_of values).state (draft_of values) sound.lists sound.stands
