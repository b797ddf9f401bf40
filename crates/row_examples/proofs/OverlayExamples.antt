-- OVERLAY.
use Rattle.std.specs.Prelude.{◌≡◌, [], ◌∷◌, ◌++◌, true, false, refl}
use Rattle.pipe_model.specs.declared.kind.Kind.TheVariants.{Overlay}
use Rattle.pipe_model.specs.Event.Want.{Read, Take}
use Rattle.row_examples.specs.Wants.{wants_of, wants_refused, written_by, all, on, writes, ends}

-- the record of the higher input is on top, and the lower one is seen behind its end
on_top : written_by (Overlay 32) (all 2) (all 1) (on 0 "abc" ++ on 1 "x") ≡ on 0 "xbc"
on_top = refl

-- and through its pads
through_pads : written_by (Overlay 32) (all 2) (all 1) (on 0 "abc" ++ on 1 " x y") ≡ on 0 "axcy"
through_pads = refl

-- each place is seen by itself
three_inputs : written_by (Overlay 42) (all 3) (all 1) (on 0 "aaaa" ++ on 1 "b*b*" ++ on 2 "**cc") ≡ on 0 "bacc"
three_inputs = refl

-- where no input has another byte than the pad, the pad stands, as long as the longest
all_pads : written_by (Overlay 32) (all 3) (all 1) (on 0 "  a" ++ on 1 "    " ++ on 2 "") ≡ on 0 "  a "
all_pads = refl

-- a byte other than the pad is seen, also a blank
other_pad : written_by (Overlay 42) (all 2) (all 1) (on 0 "abc" ++ on 1 " *") ≡ on 0 " bc"
other_pad = refl

-- a record of each input, and all are taken
in_rounds : wants_of (Overlay 32) (all 2) (all 1) (on 0 "a|b" ++ on 1 " x") ≡
    Read 0 ∷ Read 1 ∷ writes 0 "ax" ∷ Take 0 ∷ Take 1 ∷ Read 0 ∷ Read 1 ∷ writes 0 "b" ∷ Take 0 ∷ Read 0 ∷ ends ∷ []
in_rounds = refl

-- it goes on to the end of the last input
uneven : written_by (Overlay 32) (all 3) (all 1) (on 0 "a" ++ on 1 " x| y" ++ on 2 "  1|  2|  3") ≡ on 0 "ax1| y2|  3"
uneven = refl

not_connected : wants_of (Overlay 32) (true ∷ false ∷ []) (all 1) (on 0 "a") ≡ Read 0 ∷ Read 1 ∷ writes 0 "a" ∷ Take 0 ∷ Read 0 ∷ ends ∷ []
not_connected = refl

refused : wants_refused (0 ∷ []) (Overlay 32) (all 2) (all 1) (on 0 "a" ++ on 1 "b") ≡ Read 0 ∷ Read 1 ∷ writes 0 "b" ∷ ends ∷ []
refused = refl
