use Rattle.std.proofs.Common.{◌≡◌, ◌∙◌, ap}
use Rattle.std.specs.Ordering.{is_eq}
use Rattle.pipe_model.specs.Ranges.{part_of}
use Rattle.stream_laws.proofs.KeysInTurn.{by_bytes}
use Rattle.unique_sort.proofs.KeyOrder.{key_straight, key_turned, key_less, key_ties, key_ties_turned}
use Rattle.unique_sort.proofs.compare.compared_by.Goals as goal

pub returns-then-key-clause-ties : goal.returns-then-key-clause-ties
returns-then-key-clause-ties c =
    let key = c.args.key in
    let rec = c.args.rec.now in
    let other = c.args.other.now in
    let is : c.cmp-order.result ≡ by_bytes (part_of key.range rec) (part_of key.range other) = c.cmp-order.ensures ∙ ap (λ a. by_bytes a c.part_of-2.result.now) c.part_of.ensures ∙ ap (by_bytes (part_of key.range rec)) c.part_of-2.ensures in
    ap is_eq c.reverse.ensures ∙ key_ties_turned key rec other c.cmp-order.result is

pub returns-then-key-clause-less : goal.returns-then-key-clause-less
returns-then-key-clause-less c =
    let key = c.args.key in
    let rec = c.args.rec.now in
    let other = c.args.other.now in
    let is : c.cmp-order.result ≡ by_bytes (part_of key.range rec) (part_of key.range other) = c.cmp-order.ensures ∙ ap (λ a. by_bytes a c.part_of-2.result.now) c.part_of.ensures ∙ ap (by_bytes (part_of key.range rec)) c.part_of-2.ensures in
    key_less key rec other c.reverse.result (c.reverse.ensures ∙ key_turned key rec other c.cmp-order.result c.if-key.true is)

pub returns-else-key-clause-ties : goal.returns-else-key-clause-ties
returns-else-key-clause-ties c =
    let key = c.args.key in
    let rec = c.args.rec.now in
    let other = c.args.other.now in
    let is : c.cmp-order.result ≡ by_bytes (part_of key.range rec) (part_of key.range other) = c.cmp-order.ensures ∙ ap (λ a. by_bytes a c.part_of-2.result.now) c.part_of.ensures ∙ ap (by_bytes (part_of key.range rec)) c.part_of-2.ensures in
    key_ties key rec other c.cmp-order.result is

pub returns-else-key-clause-less : goal.returns-else-key-clause-less
returns-else-key-clause-less c =
    let key = c.args.key in
    let rec = c.args.rec.now in
    let other = c.args.other.now in
    let is : c.cmp-order.result ≡ by_bytes (part_of key.range rec) (part_of key.range other) = c.cmp-order.ensures ∙ ap (λ a. by_bytes a c.part_of-2.result.now) c.part_of.ensures ∙ ap (by_bytes (part_of key.range rec)) c.part_of-2.ensures in
    key_less key rec other c.cmp-order.result (key_straight key rec other c.cmp-order.result c.if-key.false is)
