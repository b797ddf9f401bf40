-- A fresh driver of lists is the stage of each strand whose kind has these lists.
use Rattle.std.proofs.Common.{◌≡◌, ℕ, Bool, true, false, List, [], length, map, refl, sym, ◌∙◌, ap, subst, arith, Some}
use Rattle.std.proofs.lemmas.List.{drop_all}
use Rattle.pipe_model.specs.declared.kind.Kind.{Kind}
use Rattle.pipe_model.specs.declared.net.Strand.{Strand}
use Rattle.pipe_model.specs.Records.{lines}
use Rattle.pipe_model.specs.Row.{Act}
use Rattle.pipe_model.specs.Shape.{Records, Stream, writes, each_record, copied}
use Rattle.pipe_model.specs.Shape.Outs.{Pairs}
use Rattle.pipe_model.specs.Table.{line_of}
use Rattle.stage_steps.specs.declared.listed.Listed.{Listed}
use Rattle.stage_steps.specs.declared.order.Order.{Order}
use Rattle.stage_steps.specs.Drivers.{IsFresh, IsStageOf}
use Rattle.stage_steps.specs.Listed.{lists_of, only_before}
use Rattle.stage_steps.specs.Places.{order_of}
use Rattle.stage_steps.specs.Each.{EachStand, each_look}
use Rattle.stage_steps.specs.SharedLists.{LinesStand, fresh_lines, CopiesStand, copies_look, fresh_copies}

-- by the stream of the kind for the connected outputs
pub stage_of : {L : Type 0} (stands : L → Bool → Stream → Records → List Act → Type 0) (is_looking : L → Bool) (kind : Kind) (t : List Bool → Stream) (lists : L) (order : Order) (outputs : List Bool) (keeps : Bool) (x : Listed L) →
    IsFresh stands is_looking lists order outputs keeps x →
    ((s : Strand) → lists_of s (line_of kind).shape ≡ Some (record { order = order_of order; keeps = keeps; stream = t s.ports.has_output })) →
    is_looking lists ≡ (line_of kind).looks → (keeps ≡ true → is_looking lists ≡ true) → stands lists false (t outputs) [] [] →
    IsStageOf stands is_looking kind outputs x
stage_of stands is_looking kind t lists order outputs keeps x fresh lists_are looks_are looking begins = λ s kind_is outputs_are. fresh s (t s.ports.has_output) (record {
  lists_are = ap (λ k. lists_of s (line_of k).shape) kind_is ∙ lists_are s;
  outputs_are = sym outputs_are;
  looks_are = looks_are ∙ sym (ap (λ k. (line_of k).looks) kind_is);
  looking = looking;
  begins = subst (λ o. stands lists false (t o) [] []) (sym outputs_are) begins;
})

pub lines_begin : (bytes : List ℕ) → LinesStand (fresh_lines bytes) false (only_before (map (λ rec. (0, rec)) (lines bytes))) [] []
lines_begin bytes = (refl, ap (λ l. writes (map (λ rec. (0, rec)) (lines l))) (sym (drop_all (length bytes) bytes (omega arith))))

pub copies_begin : (is_looking : Bool) → EachStand CopiesStand (fresh_copies is_looking) false (each_record copied) [] []
copies_begin is_looking = (Pairs copied, refl, (refl, refl, tt))

pub fresh_copies_look : (is_looking : Bool) → each_look copies_look (fresh_copies is_looking) ≡ is_looking
fresh_copies_look is_looking = refl
