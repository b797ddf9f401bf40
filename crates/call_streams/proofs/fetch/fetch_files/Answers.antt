use Rattle.std.proofs.Common.{◌<◌, ◌≤◌, ◌+◌, length, ap, subst, arith, get_or}
use Rattle.std.proofs.lemmas.Result.{err_from_is_err_and}
use Rattle.call_meaning.specs.Devices.{store}
use Rattle.call_meaning.specs.Meaning.{input_limit}
use Rattle.call_streams.proofs.Fetches.{as_long, filling_absent, filling_all, filling_full, filling_more, filling_none, filling_stopped, given_reads, next_at, told_too_large}
use Rattle.call_streams.proofs.fetch.fetch_files.Goals as goal
use Rattle.call_streams.proofs.fetch.fetch_files.Goals.{in-Some+else-len-size, in_default}

pub loop-strand-init : goal.loop-strand-init
loop-strand-init g c = record {
  end = ap (λ xs. length xs) c.as_slice-strand-end.ensures;
  filling = filling_none c.args.net.now c.args.before c.args.found.now.items (store _ _ _) c.requires.fits c.requires.known;
  whole = c.requires.whole;
}

pub bounds-as_slice-strand : goal.bounds-as_slice-strand
bounds-as_slice-strand g c =
    let size = as_long c.loop-strand.invariant.filling in
    let shown = ap (λ xs. length xs) c.as_slice.ensures in
    let end = c.loop-strand.invariant.end in
    let some = c.loop-strand-test.true in
    omega (arith, size, shown, end, some)

pub returns-in_err-bytes-clause-fetched : goal.returns-in_err-bytes-clause-fetched
returns-in_err-bytes-clause-fetched g c =
    let filling = c.loop-strand.invariant.filling in
    let d = c.index-as_slice-strand.result in
    let p = get_or c.as_slice.result.now c.loop-strand.strand d in
    let at = next_at filling c.as_slice.result.now d c.as_slice.ensures (subst (λ n. c.loop-strand.strand < n) c.loop-strand.invariant.end c.loop-strand-test.true) in
    let e = err_from_is_err_and c.from_residual.result c.from_residual.ensures.1 in
    rw (e.1, e.2) (filling_stopped filling p at (store _ _ _) c.in_err-bytes.field-0.0.outcome c.in_err-bytes.ensures.given)

pub returns-then-len-size-clause-fetched : goal.returns-then-len-size-clause-fetched
returns-then-len-size-clause-fetched g c =
    let filling = c.loop-strand.invariant.filling in
    let d = c.index-as_slice-strand.result in
    let p = get_or c.as_slice.result.now c.loop-strand.strand d in
    let at = next_at filling c.as_slice.result.now d c.as_slice.ensures (subst (λ n. c.loop-strand.strand < n) c.loop-strand.invariant.end c.loop-strand-test.true) in
    let new = store (g.F.Shelf.files c.file_of.new.shelf) (g.F.Shelf.faults c.file_of.new.shelf) (g.F.Shelf.wants c.file_of.new.shelf) in
    let more = c.if-len-size.true in
    let fits = filling.fetched.fits in
    let large : input_limit < c.loop-strand.size + length c.bytes-len.result.now = omega (arith, more, fits) in
    filling_full filling p at new c.file_of.new.found.items c.in-Some.bytes (rw c.in-Some.is at c.in_ok-bytes.ensures.given) c.bytes-len.result.now c.bytes-len.ensures
    c.tell.result.outcome (told_too_large c.tell.result c.tell.ensures) large

pub feed-requires : goal.feed-requires
feed-requires g c =
    let filling = c.loop-strand.invariant.filling in
    let d = c.index-as_slice-strand.result in
    let p = get_or c.as_slice.result.now c.loop-strand.strand d in
    let at = next_at filling c.as_slice.result.now d c.as_slice.ensures (subst (λ n. c.loop-strand.strand < n) c.loop-strand.invariant.end c.loop-strand-test.true) in
    let new = store (g.F.Shelf.files c.file_of.new.shelf) (g.F.Shelf.faults c.file_of.new.shelf) (g.F.Shelf.wants c.file_of.new.shelf) in
    record { reads = (p, at, given_reads filling p at new c.file_of.new.found.items c.in-Some.bytes (rw c.in-Some.is at c.in_ok-bytes.ensures.given)) }

pub loop-strand-preserved : goal.loop-strand-preserved
loop-strand-preserved g c =
    let filling = c.loop-strand.invariant.filling in
    let d = c.index-as_slice-strand.result in
    let p = get_or c.as_slice.result.now c.loop-strand.strand d in
    let at = next_at filling c.as_slice.result.now d c.as_slice.ensures (subst (λ n. c.loop-strand.strand < n) c.loop-strand.invariant.end c.loop-strand-test.true) in
    let new = store (g.F.Shelf.files c.file_of.new.shelf) (g.F.Shelf.faults c.file_of.new.shelf) (g.F.Shelf.wants c.file_of.new.shelf) in
    let found = c.file_of.new.found.items in
    let fits = filling.fetched.fits in
    elim c.match-branch-2.branch [
      | in-Some+else-len-size w ↦
          (let less = w.if-len-size.false in
          let within : c.loop-strand.size + length w.bytes-len.result.now ≤ input_limit = omega (arith, less, fits) in
          rw (w.net-is, w.size-is) (record {
            end = c.loop-strand.invariant.end;
            filling = filling_more filling p at new found w.in-Some.bytes (rw w.in-Some.is at c.in_ok-bytes.ensures.given) w.bytes-len.result.now w.bytes-len.ensures _ within (w.feed.ensures.fed p at);
            whole = w.feed.ensures.whole c.loop-strand.invariant.whole;
          }))
      | in_default w ↦
          rw (w.net-is, w.size-is) (record {
            end = c.loop-strand.invariant.end;
            filling = filling_absent filling p at new found c.requires.unfiled (rw w.in_default.is at c.in_ok-bytes.ensures.given);
            whole = c.loop-strand.invariant.whole;
          })
    ]

pub returns-clause-fetched : goal.returns-clause-fetched
returns-clause-fetched g c =
    let end = c.loop-strand.invariant.end in
    let within = c.loop-strand.auto.strand-end in
    let none = c.loop-strand-test.false in
    (filling_all c.loop-strand.invariant.filling (omega (arith, end, within, none))).0

pub returns-clause-filed : goal.returns-clause-filed
returns-clause-filed g c =
    let end = c.loop-strand.invariant.end in
    let within = c.loop-strand.auto.strand-end in
    let none = c.loop-strand-test.false in
    (filling_all c.loop-strand.invariant.filling (omega (arith, end, within, none))).1
