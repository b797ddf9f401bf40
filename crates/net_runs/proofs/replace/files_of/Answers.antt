use Rattle.std.proofs.Common.{◌≡◌, ◌<◌, length, map, sym, ◌∙◌, ap, subst, arith}
use Rattle.std.proofs.lemmas.List.Elements.{All-nil}
use Rattle.std.specs.List.{All}
use Rattle.pipe_model.specs.declared.net.Net.{Net}
use Rattle.call_meaning.specs.Effects.{in_order_after}
use Rattle.net_runs.specs.Puts.{IsPut, put_text}
use Rattle.net_runs.proofs.Puts.{early_puts, ended_puts, files_left, order_end, order_more}
use Rattle.net_runs.proofs.replace.files_of.Goals as goal

pub returns-in-Stalled : goal.returns-in-Stalled
returns-in-Stalled g c = early_puts c.args.core.now c.requires.ends.0 c.args.outcome.now c.new-puts.result.items c.requires.ends.1 c.in-Stalled.is c.new-puts.ensures.items

pub loop-strand-init : goal.loop-strand-init
loop-strand-init g c = record {
  within = omega arith;
  end = ap length (c.as_slice-strand-end.ensures ∙ ap (λ (n : Net). n.strands) c.net.ensures);
  each = subst (All (IsPut c.args.core.now)) (sym c.new-puts.ensures.items) (All-nil (IsPut c.args.core.now));
  texts = ap (λ puts. in_order_after (map (put_text c.args.core.now) puts) (files_left c.args.core.now 0)) c.new-puts.ensures.items;
}

pub loop-strand-preserved : goal.loop-strand-preserved
loop-strand-preserved g c =
    let end = c.loop-strand.invariant.end in
    let some = c.loop-strand-test.true in
    let lt : c.loop-strand.strand < length c.args.core.now.net.strands = omega (arith, end, some) in
    record {
      within = omega (arith, lt);
      end = end;
      each = c.in_ok-add_file.ensures.each c.loop-strand.invariant.each;
      texts =
          order_more c.args.core.now c.loop-strand.strand lt (map (put_text c.args.core.now) c.loop-strand.puts.items) (map (put_text c.args.core.now) c.add_file.new.puts.items) c.in_ok-add_file.ensures.texts
          ∙ c.loop-strand.invariant.texts;
    }

pub returns : goal.returns
returns g c =
    let end = c.loop-strand.invariant.end in
    let within = c.loop-strand.invariant.within in
    let none = c.loop-strand-test.false in
    let all : c.loop-strand.strand ≡ length c.args.core.now.net.strands = omega (arith, end, within, none) in
    ended_puts c.args.core.now c.requires.ends.0 c.args.outcome.now c.loop-strand.puts.items c.requires.ends.1 (λ lines is. c.in_default.not-Stalled lines is) (λ spent is. c.in_default.not-Spent spent is) c.loop-strand.invariant.each
    (sym (order_end c.args.core.now c.loop-strand.strand all (map (put_text c.args.core.now) c.loop-strand.puts.items)) ∙ c.loop-strand.invariant.texts)
