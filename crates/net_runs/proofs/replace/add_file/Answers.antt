use Rattle.std.proofs.Common.{◌≡◌, ◌<◌, length, map, sym, ◌∙◌, ap, subst, arith, refl, Some, slice_get}
use Rattle.std.proofs.lemmas.Option.{slice_get_read}
use Rattle.std.proofs.lemmas.Result.{on_ok_weaker}
use Rattle.std.specs.List.{All}
use Rattle.pipe_model.specs.declared.net.Net.{Net}
use Rattle.pipe_model.specs.declared.net.Strand.{Strand}
use Rattle.pipe_model.specs.State.{nothing_yet, strand_at}
use Rattle.call_meaning.specs.Effects.{in_order_after}
use Rattle.net_runs.specs.Puts.{IsPut, file_at, put_text, with_put}
use Rattle.net_runs.proofs.Puts.{all_with_put, file_other, file_unseen, new_put, texts_more}
use Rattle.net_runs.proofs.replace.add_file.Goals as goal

pub returns-in_default : goal.returns-in_default
returns-in_default g c =
    let shown = c.as_slice.ensures ∙ ap (λ (n : Net). n.strands) c.net.ensures in
    let size = ap length shown in
    let lt = c.requires in
    let within : c.args.strand < length c.as_slice.result.now = omega (arith, size, lt) in
    let p = c.index-as_slice-strand.result in
    let at : strand_at c.args.core.now.net nothing_yet c.args.strand ≡ Some p =
    subst (λ xs. slice_get xs c.args.strand ≡ Some p) shown (slice_get_read c.as_slice.result.now (length c.as_slice.result.now) c.args.strand p refl within c.index-as_slice-strand.is) in
    record {
      each = λ all. all;
      texts = ap (in_order_after (map (put_text c.args.core.now) c.args.puts.now.items))
          (sym (file_other c.args.core.now c.args.strand p at (λ name is. c.in_default.not-FileOut name (ap (λ (q : Strand). q.kind) (sym c.index-as_slice-strand.is) ∙ is))));
    }

pub returns-then-not-saw_end-clause-texts : goal.returns-then-not-saw_end-clause-texts
returns-then-not-saw_end-clause-texts g c =
    let shown = c.as_slice.ensures ∙ ap (λ (n : Net). n.strands) c.net.ensures in
    let size = ap length shown in
    let lt = c.requires in
    let within : c.args.strand < length c.as_slice.result.now = omega (arith, size, lt) in
    let p = c.index-as_slice-strand.result in
    let at : strand_at c.args.core.now.net nothing_yet c.args.strand ≡ Some p =
    subst (λ xs. slice_get xs c.args.strand ≡ Some p) shown (slice_get_read c.as_slice.result.now (length c.as_slice.result.now) c.args.strand p refl within c.index-as_slice-strand.is) in
    ap (in_order_after (map (put_text c.args.core.now) c.args.puts.now.items))
    (sym (file_unseen c.args.core.now c.args.strand p at c.in-FileOut.name (ap (λ (q : Strand). q.kind) c.index-as_slice-strand.is ∙ c.in-FileOut.is) (sym c.saw_end.ensures ∙ c.if-not-saw_end.true)))

pub returns-clause-each : goal.returns-clause-each
returns-clause-each g c =
    let shown = c.as_slice.ensures ∙ ap (λ (n : Net). n.strands) c.net.ensures in
    let size = ap length shown in
    let lt = c.requires in
    let within : c.args.strand < length c.as_slice.result.now = omega (arith, size, lt) in
    let p = c.index-as_slice-strand.result in
    let at : strand_at c.args.core.now.net nothing_yet c.args.strand ≡ Some p =
    subst (λ xs. slice_get xs c.args.strand ≡ Some p) shown (slice_get_read c.as_slice.result.now (length c.as_slice.result.now) c.args.strand p refl within c.index-as_slice-strand.is) in
    let is_out = ap (λ (q : Strand). q.kind) c.index-as_slice-strand.is ∙ c.in-FileOut.is in
    let put = c.in_ok-put_of.field-0 in
    let next : c.insert.new.puts.items ≡ with_put put c.args.puts.now.items → All (IsPut c.args.core.now) c.args.puts.now.items → All (IsPut c.args.core.now) c.insert.new.puts.items =
    λ is all. subst (All (IsPut c.args.core.now)) (sym is) (all_with_put c.args.core.now put c.args.puts.now.items (new_put c.args.core.now c.args.strand p at c.in-FileOut.name is_out put c.in_ok-put_of.ensures lt) all) in
    on_ok_weaker c.insert.result next c.insert.ensures

pub returns-clause-texts : goal.returns-clause-texts
returns-clause-texts g c =
    let shown = c.as_slice.ensures ∙ ap (λ (n : Net). n.strands) c.net.ensures in
    let size = ap length shown in
    let lt = c.requires in
    let within : c.args.strand < length c.as_slice.result.now = omega (arith, size, lt) in
    let p = c.index-as_slice-strand.result in
    let at : strand_at c.args.core.now.net nothing_yet c.args.strand ≡ Some p =
    subst (λ xs. slice_get xs c.args.strand ≡ Some p) shown (slice_get_read c.as_slice.result.now (length c.as_slice.result.now) c.args.strand p refl within c.index-as_slice-strand.is) in
    let is_out = ap (λ (q : Strand). q.kind) c.index-as_slice-strand.is ∙ c.in-FileOut.is in
    let put = c.in_ok-put_of.field-0 in
    let next : c.insert.new.puts.items ≡ with_put put c.args.puts.now.items →
    map (put_text c.args.core.now) c.insert.new.puts.items ≡ in_order_after (map (put_text c.args.core.now) c.args.puts.now.items) (file_at c.args.core.now c.args.strand) =
    λ is. ap (map (put_text c.args.core.now)) is ∙ texts_more c.args.core.now c.args.strand p at c.in-FileOut.name is_out put c.in_ok-put_of.ensures (sym c.saw_end.ensures ∙ c.if-not-saw_end.false) c.args.puts.now.items in
    on_ok_weaker c.insert.result next c.insert.ensures
