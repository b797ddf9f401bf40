use Rattle.std.proofs.Common.{◌≡◌, ◌∙◌, ◌+◌, ◌-◌, ◌++◌, suc, ap, sym, arith}
use Rattle.std.proofs.lemmas.List.{append_assoc}
use Rattle.call_meaning.specs.Sample.{lines_behind, sample_line}
use Rattle.call_streams.proofs.sample.sample_input.Goals as goal

pub loop-preserved : goal.loop-preserved
loop-preserved c =
    let text = c.loop.text.items in
    let rest = c.args.count - (c.loop.counter + 1) in
    let number = c.next_number-number.result in
    let left : c.args.count - c.loop.counter ≡ suc rest = omega (arith, c.loop-test.true) in
    record {
      lines =
          ap (λ z. z ++ lines_behind rest number) c.in_ok-add_line.ensures
          ∙ append_assoc text (sample_line number) (lines_behind rest number)
          ∙ ap (λ n. text ++ (sample_line n ++ lines_behind rest n)) c.next_number-number.ensures.next
          ∙ ap (λ n. text ++ lines_behind n c.loop.number) (sym left)
          ∙ c.loop.invariant.lines;
      small = c.next_number-number.ensures.small;
    }
