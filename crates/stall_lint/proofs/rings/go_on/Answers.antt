-- A new strand is entered, or the last one is left, or a link needn't be followed, or a ring closes.
use Rattle.std.proofs.Common.{arith, ◌≡◌, ℕ, ◌-◌, List, length, sym, ◌∙◌, ap, subst, Some, slice_index_or, slice_set, take}
use Rattle.std.proofs.lemmas.Option.{slice_get_within}
use Rattle.stall_lint.specs.LooksBack.{GoesOn}
use Rattle.stall_lint.specs.declared.rings.Look.TheVariants.{New, On, Done}
use Rattle.stall_lint.proofs.LookingBack.{closes, goes_on_left, goes_on_new, goes_on_popped, is_read, last_there, look_at, no_link, nothing_waits, numbers_read}
use Rattle.stall_lint.proofs.rings.go_on.Goals as goal

pub bounds-waiting-at : goal.bounds-waiting-at
bounds-waiting-at c =
    let there = last_there c.args.net.now c.args.waiting.now c.args.looks.now c.args.way.now.items c.requires.search c.args.at c.requires.last in
    let places = c.requires.search.places in
    omega (arith, there, places)

pub bounds-looks-at : goal.bounds-looks-at
bounds-looks-at c =
    let there = last_there c.args.net.now c.args.waiting.now c.args.looks.now c.args.way.now.items c.requires.search c.args.at c.requires.last in
    let count = c.requires.search.count in
    omega (arith, there, count)

pub returns-in_default : goal.returns-in_default
returns-in_default c =
    let waiting = c.args.waiting.now in
    let way = c.args.way.now.items in
    let read = c.index-waiting-at.result in
    let here = numbers_read c.args.net.now c.args.waiting.now c.args.looks.now c.args.way.now.items c.requires.search c.args.at c.requires.last read in
    let shorter : c.pop.new.self.items ≡ take (length way - 1) way = c.pop.ensures.rest ∙ ap (λ n. take n way) (omega (arith, c.args.way.now.ok.0)) in
    subst (GoesOn c.args.net.now waiting c.args.looks.now waiting _) (sym shorter)
    (goes_on_left c.args.net.now c.args.waiting.now c.args.looks.now c.args.way.now.items c.requires.search c.args.at c.requires.last (nothing_waits waiting c.args.at (slice_index_or waiting c.args.at read) here (λ j is. c.in_default.not-Some j (c.last.ensures ∙ is))))

pub bounds-as_slice-number : goal.bounds-as_slice-number
bounds-as_slice-number c =
    let read = is_read c.args.net.now c.requires.formed c.args.waiting.now c.args.looks.now c.args.way.now.items c.requires.search c.args.at c.requires.last c.index-waiting-at.result c.last.result c.last.ensures c.in-Some.number c.in-Some.is c.as_slice.result.now c.as_slice.ensures in
    let within = slice_get_within c.args.net.now.links c.in-Some.number (slice_index_or c.as_slice.result.now c.in-Some.number no_link) read.at in
    let long = ap length c.as_slice.ensures in
    omega (arith, within, long)

pub bounds : goal.bounds
bounds c = (is_read c.args.net.now c.requires.formed c.args.waiting.now c.args.looks.now c.args.way.now.items c.requires.search c.args.at c.requires.last c.index-waiting-at.result c.last.result c.last.ensures c.in-Some.number c.in-Some.is c.as_slice.result.now c.as_slice.ensures).from_there

pub enter-requires : goal.enter-requires
enter-requires c = (is_read c.args.net.now c.requires.formed c.args.waiting.now c.args.looks.now c.args.way.now.items c.requires.search c.args.at c.requires.last c.index-waiting-at.result c.last.result c.last.ensures c.in-Some.number c.in-Some.is c.as_slice.result.now c.as_slice.ensures).from_there

pub bounds-waiting-at-in-Done : goal.bounds-waiting-at-in-Done
bounds-waiting-at-in-Done c =
    let there = last_there c.args.net.now c.args.waiting.now c.args.looks.now c.args.way.now.items c.requires.search c.args.at c.requires.last in
    let places = c.requires.search.places in
    omega (arith, there, places)

pub returns-in_ok-enter-in-New : goal.returns-in_ok-enter-in-New
returns-in_ok-enter-in-New c =
    let read = is_read c.args.net.now c.requires.formed c.args.waiting.now c.args.looks.now c.args.way.now.items c.requires.search c.args.at c.requires.last c.index-waiting-at.result c.last.result c.last.ensures c.in-Some.number c.in-Some.is c.as_slice.result.now c.as_slice.ensures in
    let numbers = slice_index_or c.args.waiting.now c.args.at c.index-waiting-at.result in
    let link = slice_index_or c.as_slice.result.now c.in-Some.number no_link in
    let entered = c.in_ok-enter-in-New.ensures in
    rw (entered.looks, entered.way)
    (goes_on_new c.args.net.now c.args.waiting.now c.args.looks.now c.args.way.now.items c.requires.search c.args.at c.requires.last numbers read.here c.in-Some.number read.is link read.at (look_at c.args.looks.now link.from _ New read.from_there c.in-New.is))

pub returns-in-On : goal.returns-in-On
returns-in-On c =
    let read = is_read c.args.net.now c.requires.formed c.args.waiting.now c.args.looks.now c.args.way.now.items c.requires.search c.args.at c.requires.last c.index-waiting-at.result c.last.result c.last.ensures c.in-Some.number c.in-Some.is c.as_slice.result.now c.as_slice.ensures in
    let numbers = slice_index_or c.args.waiting.now c.args.at c.index-waiting-at.result in
    let link = slice_index_or c.as_slice.result.now c.in-Some.number no_link in
    closes c.args.net.now c.args.waiting.now c.args.looks.now c.args.way.now.items c.requires.search c.args.at c.requires.last numbers read.here c.in-Some.number read.is link read.at c.in-On.place (look_at c.args.looks.now link.from _ (On c.in-On.place) read.from_there c.in-On.is)

pub returns-in-Done : goal.returns-in-Done
returns-in-Done c =
    let read = is_read c.args.net.now c.requires.formed c.args.waiting.now c.args.looks.now c.args.way.now.items c.requires.search c.args.at c.requires.last c.index-waiting-at.result c.last.result c.last.ensures c.in-Some.number c.in-Some.is c.as_slice.result.now c.as_slice.ensures in
    let numbers = slice_index_or c.args.waiting.now c.args.at c.index-waiting-at.result in
    let again = slice_index_or c.args.waiting.now c.args.at c.index-waiting-at-in-Done.result in
    let link = slice_index_or c.as_slice.result.now c.in-Some.number no_link in
    let one : Some again ≡ Some numbers = sym (numbers_read c.args.net.now c.args.waiting.now c.args.looks.now c.args.way.now.items c.requires.search c.args.at c.requires.last c.index-waiting-at-in-Done.result) ∙ read.here in
    let same : again ≡ numbers = cc in
    subst (λ xs. GoesOn c.args.net.now c.args.waiting.now c.args.looks.now (slice_set c.args.waiting.now c.args.at xs) c.args.looks.now c.args.way.now.items)
    (sym (c.pop-in-Done.ensures ∙ ap (λ (xs : List ℕ). take (length xs - 1) xs) same))
    (goes_on_popped c.args.net.now c.args.waiting.now c.args.looks.now c.args.way.now.items c.requires.search c.args.at c.requires.last numbers read.here c.in-Some.number read.is link read.at (look_at c.args.looks.now link.from _ Done read.from_there c.in-Done.is))
