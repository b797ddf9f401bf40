-- All pairs of a stream whose records add to what was made of those before them.
use Rattle.std.proofs.Common.{◌≡◌, ℕ, Bool, true, false, cond, List, [], ◌∷◌, ◌++◌, refl, sym, ◌∙◌, ap, Option, ℤ, append_assoc}
use Rattle.std.proofs.lemmas.List.{append-nil}
use Rattle.pipe_model.specs.Row.{Pair}
use Rattle.pipe_model.specs.Shape.{Records, Stream, last_pairs, never}
use Rattle.pipe_model.specs.Shape.Outs.{Pairs}
use Rattle.pipe_model.specs.Listed.{pairs_after}

module _ (made adds : Records → List Pair) (last : Option (Records → List Pair)) (stops : Records → Bool) (code : Records → ℤ) where
  -- each record adds pairs, and at the end come the last ones
  abbrev pub adding : Stream
  adding = record { before = []; outs = Pairs adds; last = last; stops = stops; halts = never; code = code }

  -- all pairs of some records and those behind them
  abbrev pub all_with : Records → Records → List Pair
  all_with recs [] = made recs ++ last_pairs last recs
  all_with recs (rec ∷ rest) = cond (stops (recs ++ rec ∷ [])) (made (recs ++ rec ∷ [])) (all_with (recs ++ rec ∷ []) rest)

  module _ (grow : (recs : Records) (rec : List ℕ) → made (recs ++ rec ∷ []) ≡ made recs ++ adds (recs ++ rec ∷ [])) where
    pub all_after : (recs rest : Records) → made recs ++ pairs_after adding recs rest ≡ all_with recs rest
    all_after recs [] = refl
    all_after recs (rec ∷ rest) =
        sym (append_assoc (made recs) (adds now) (cond (stops now) [] (pairs_after adding now rest))) ∙ ap (λ z. z ++ cond (stops now) [] (pairs_after adding now rest)) (sym (grow recs rec))
        ∙ by_stops (stops now) (all_after now rest)
      where
        now : Records
        now = recs ++ rec ∷ []

        by_stops : (b : Bool) → made now ++ pairs_after adding now rest ≡ all_with now rest → made now ++ cond b [] (pairs_after adding now rest) ≡ cond b (made now) (all_with now rest)
        by_stops true e = append-nil (made now)
        by_stops false e = e

    -- where it never stops
    pub all_never : ((recs : Records) → stops recs ≡ false) → (recs rest : Records) → all_with recs rest ≡ made (recs ++ rest) ++ last_pairs last (recs ++ rest)
    all_never goes recs [] = ap (λ z. made z ++ last_pairs last z) (sym (append-nil recs))
    all_never goes recs (rec ∷ rest) =
        ap (λ b. cond b (made (recs ++ rec ∷ [])) (all_with (recs ++ rec ∷ []) rest)) (goes (recs ++ rec ∷ []))
        ∙ all_never goes (recs ++ rec ∷ []) rest ∙ ap (λ z. made z ++ last_pairs last z) (append_assoc recs (rec ∷ []) rest)
