use Rattle.std.proofs.Common.{◌≡◌, suc, ◌+◌, ◌<◌, ◌||◌, length, sym, ◌∙◌, refl, ap, subst, arith, Some, slice_get}
use Rattle.std.proofs.lemmas.Option.{slice_get_read}
use Rattle.net_graph.specs.Fed.{input_kind, reads_file, with_bytes, with_kind}
use Rattle.call_streams.proofs.Feds.{kind_read, kind_unread, net_with, with_all, with_length, with_more, with_same}
use Rattle.call_streams.proofs.input.give_input.Goals as goal
use Rattle.call_streams.proofs.input.give_input.Goals.{then-reads+in_ok-copy, else-reads}

pub bounds-as_slice-strand : goal.bounds-as_slice-strand
bounds-as_slice-strand c =
    let size = with_length (input_kind c.args.input.now) c.loop-strand.strand c.args.net.now c.loop-strand.net c.loop-strand.invariant.fed in
    let shown = ap (λ xs. length xs) c.as_slice.ensures in
    let end = c.loop-strand.invariant.end in
    let some = c.loop-strand-test.true in
    omega (arith, size, shown, end, some)

pub feed-requires : goal.feed-requires
feed-requires c =
    let size = with_length (input_kind c.args.input.now) c.loop-strand.strand c.args.net.now c.loop-strand.net c.loop-strand.invariant.fed in
    let shown = ap (λ xs. length xs) c.as_slice.ensures in
    let end = c.loop-strand.invariant.end in
    let some = c.loop-strand-test.true in
    let within : c.loop-strand.strand < length c.as_slice.result.now = omega (arith, size, shown, end, some) in
    let at = slice_get_read c.as_slice.result.now (length c.as_slice.result.now) c.loop-strand.strand c.index-as_slice-strand.result refl within c.index-as_slice-strand.is in
    record {
      reads = (
        c.index-as_slice-strand.result,
        subst (λ xs. slice_get xs c.loop-strand.strand ≡ Some c.index-as_slice-strand.result) c.as_slice.ensures at,
        ap (λ b. b || reads_file c.index-as_slice-strand.result.kind) (sym c.reads.ensures ∙ c.if-reads.true),
      );
    }

pub loop-strand-preserved : goal.loop-strand-preserved
loop-strand-preserved c =
    let change = input_kind c.args.input.now in
    let k = c.loop-strand.strand in
    let now = c.loop-strand.net in
    let p = c.index-as_slice-strand.result in
    let size = with_length change k c.args.net.now now c.loop-strand.invariant.fed in
    let shown = ap (λ xs. length xs) c.as_slice.ensures in
    let end = c.loop-strand.invariant.end in
    let some = c.loop-strand-test.true in
    let within : k < length c.as_slice.result.now = omega (arith, size, shown, end, some) in
    let read = slice_get_read c.as_slice.result.now (length c.as_slice.result.now) k p refl within c.index-as_slice-strand.is in
    let at : slice_get now.strands k ≡ Some p = subst (λ xs. slice_get xs k ≡ Some p) c.as_slice.ensures read in
    let next : suc k ≡ k + 1 = omega arith in
    elim c.if-reads.branch [
      | then-reads+in_ok-copy w ↦
          rw w.net-is (record {
            within = omega (arith, end, some);
            end = end;
            fed =
                w.feed.ensures.fed p at
                ∙ ap (λ bytes. with_kind now k (with_bytes bytes p.kind)) w.in_ok-copy.ensures
                ∙ with_more change k c.args.net.now now p c.loop-strand.invariant.fed at (with_bytes c.args.input.now p.kind) (kind_read c.args.input.now p.kind (sym c.reads.ensures ∙ w.if-reads.true))
                ∙ ap (λ n. net_with change n c.args.net.now) next;
            whole = w.feed.ensures.whole c.loop-strand.invariant.whole;
          })
      | else-reads w ↦
          rw w.net-is (record {
            within = omega (arith, end, some);
            end = end;
            fed =
                with_same change k c.args.net.now now p c.loop-strand.invariant.fed at (kind_unread c.args.input.now p.kind (sym c.reads.ensures ∙ w.if-reads.false))
                ∙ ap (λ n. net_with change n c.args.net.now) next;
            whole = c.loop-strand.invariant.whole;
          })
    ]

pub returns-clause-fed : goal.returns-clause-fed
returns-clause-fed c =
    let end = c.loop-strand.invariant.end in
    let within = c.loop-strand.invariant.within in
    let none = c.loop-strand-test.false in
    let all : c.loop-strand.strand ≡ length c.args.net.now.strands = omega (arith, end, within, none) in
    c.loop-strand.invariant.fed
    ∙ ap (λ k. net_with (input_kind c.args.input.now) k c.args.net.now) all
    ∙ with_all (input_kind c.args.input.now) c.args.net.now
