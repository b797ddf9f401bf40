-- Every kind has its family.
use Rattle.std.proofs.Common.{◌≡◌, Bool, true, false, ◌||◌, refl, subst}
use Rattle.pipe_model.specs.declared.kind.Kind.{Kind}
use Rattle.pipe_model.specs.declared.kind.Kind.TheVariants as Kinds
use Rattle.block_stages.specs.Block.{is_block}
use Rattle.collate_stage.specs.Plans.{is_collate}
use Rattle.device_stages.specs.Device.{is_device}
use Rattle.edit_stages.specs.Edit.{is_edit}
use Rattle.fan_stages.specs.Fan.{is_fan}
use Rattle.gate_elastic.specs.Gate.{is_gate}
use Rattle.lookup_stage.specs.LookupStage.{is_lookup}
use Rattle.select_stages.specs.Select.{is_select}
use Rattle.specs_stage.specs.SpecsStage.{is_specs}
use Rattle.unique_sort.specs.OrderStage.{is_order}

-- a family has the kind
abbrev pub has_family : Kind → Bool
has_family kind = is_device kind || (is_select kind || (is_edit kind || (is_order kind || (is_block kind || (is_specs kind || (is_gate kind || (is_fan kind || (is_lookup kind || is_collate kind))))))))

pub all_have : (kind : Kind) → has_family kind ≡ true
all_have Kinds.Hole = refl
all_have _ = refl

-- where the first doesn't hold, the other does
else_other : {a b : Bool} → a ≡ false → (a || b) ≡ true → b ≡ true
else_other {a} {b} fails is = subst (λ a. (a || b) ≡ true) fails is

-- it is the last one, where it is none of the others
pub last_family : (kind : Kind) → is_device kind ≡ false → is_select kind ≡ false → is_edit kind ≡ false → is_order kind ≡ false → is_block kind ≡ false → is_specs kind ≡ false → is_gate kind ≡ false → is_fan kind ≡ false → is_lookup kind ≡ false → is_collate kind ≡ true
last_family kind device select edit order block specs gate fan lookup = else_other lookup (else_other fan (else_other gate (else_other specs (else_other block (else_other order (else_other edit (else_other select (else_other device (all_have kind)))))))))
