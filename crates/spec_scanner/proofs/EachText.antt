-- Each text reads as pipelines, or is refused.
use Rattle.std.proofs.Common.{◌≡◌, ◌≢◌, ℕ, zero, suc, ◌+◌, ◌-◌, ◌<◌, ◌≤◌, ◌⊎◌, ◌∙◌, List, [], ◌∷◌, ◌++◌, length, drop, get_or, replicate, Option, Some, None, slice_get, refl, sym, ap, arith, subst, inl, inr}
use Rattle.std.specs.List.{Contains}
use Rattle.std.proofs.lemmas.Bool.{cases_eq, cases_lt}
use Rattle.pipe_model.specs.Words.{IsFirstWord, IsUnblanked}
use Rattle.argument_parts.proofs.EachWord.{each_front, each_length, each_until, each_word}
use Rattle.argument_parts.proofs.RangeFronts.{emptied}
use Rattle.spec_scanner.specs.declared.body.Front.{Front}
use Rattle.spec_scanner.specs.declared.fault.Fault.{Fault}
use Rattle.spec_scanner.specs.declared.fault.SpecFaultKind.TheVariants.{OpenOptions, TooLong}
use Rattle.spec_scanner.specs.declared.item.Item.{Item}
use Rattle.spec_scanner.specs.declared.piece.Piece.{Piece}
use Rattle.spec_scanner.specs.declared.signs.Signs.{Signs}
use Rattle.spec_scanner.specs.Body.{IsBody, IsItem}
use Rattle.spec_scanner.specs.Faults.{IsLeast, fault, least}
use Rattle.spec_scanner.specs.Fronts.{front_of}
use Rattle.spec_scanner.specs.Options.{AreWords, BeginsAs, IsWordAt, Outset, Word, no_signs}
use Rattle.spec_scanner.specs.Reads.{HasBody, IsRefused, Reads, body_faults, longest, read_items}
use Rattle.spec_scanner.proofs.Beginnings.{outset_of}
use Rattle.spec_scanner.proofs.Bodies.{Tells, after_within, after_more, front_tells, item_at}
use Rattle.spec_scanner.proofs.Leasts.{least_both, least_one}
use Rattle.spec_scanner.proofs.Scans.{too_long}
use Rattle.spec_scanner.proofs.Wording.{word_read, word_within}

-- faults are none, or have a least one
pub each_least : (faults : List Fault) → (faults ≡ []) ⊎ ((found : Fault) × IsLeast found faults)
each_least [] = inl refl
each_least (first ∷ faults) = inr (by (each_least faults))
  where
    by : (faults ≡ []) ⊎ ((found : Fault) × IsLeast found faults) → (found : Fault) × IsLeast found (first ∷ faults)
    by (inl none) = (first, subst (λ (rest : List Fault). IsLeast first (first ∷ rest)) (sym none) (least_one first))
    by (inr (found, is)) = (least (Some first) found, least_both (Some first) found (first ∷ []) faults (least_one first) is)

-- Options

-- the words of a text, apart by blanks
abbrev SomeWords : ℕ → List ℕ → Type 0
SomeWords at text = (words : List Word) × AreWords at text words

module _ (at : ℕ) (text front : List ℕ) (unblanked : IsUnblanked text front) where
  more_words : (fuel : ℕ) → ((at : ℕ) (text : List ℕ) → length text < fuel → SomeWords at text) → length text < suc fuel → (bytes rest : List ℕ) → IsFirstWord front bytes rest → 0 < length front → SomeWords at text
  more_words fuel more below bytes rest first some =
      let word : Word = record { bytes = bytes; place = at + (length text - length front) } in
      let is : IsWordAt at text word rest = word_read text front bytes rest at (at + (length text - length front)) unblanked first some refl in
      let later = more (word.place + length bytes) rest (omega (arith, below, is.some, word_within at text rest word is)) in
      (word ∷ later.0, (rest, is, later.1))

  words_from : (fuel : ℕ) → ((at : ℕ) (text : List ℕ) → length text < fuel → SomeWords at text) → length text < suc fuel → (length front ≡ 0) ⊎ (0 < length front) → SomeWords at text
  words_from fuel more below (inl none) = ([], subst (IsUnblanked text) (emptied front none) unblanked)
  words_from fuel more below (inr some) = let first = each_word front in more_words fuel more below first.0 first.1 first.2 some

each_words : (fuel at : ℕ) (text : List ℕ) → length text < fuel → SomeWords at text
each_words zero at text below = absurd (omega (arith, below))
each_words (suc fuel) at text below = let front = each_front text in words_from at text front.0 front.1 fuel (λ a t b. each_words fuel a t b) below (each_length front.0)

-- how a text begins
abbrev SomeOutset : List ℕ → Type 0
SomeOutset text = (outset : Outset) × BeginsAs text outset

outset_without : (text front : List ℕ) → IsUnblanked text front → get_or front 0 0 ≢ 40 → SomeOutset text
outset_without text front unblanked other =
    (record { signs = no_signs; start = unblanked.blanks; faults = [] }, inl (record { body = front; unblanked = unblanked; other = other; outset_is = refl }))

module _ (text after : List ℕ) (blanks : ℕ) (spells : text ≡ replicate blanks 32 ++ (40 ∷ after)) where
  outset_with : ((inside : List ℕ) × (body : List ℕ) × (¬ Contains inside 41) × (after ≡ inside ++ (41 ∷ body))) ⊎ (¬ Contains after 41) → SomeOutset text
  outset_with (inr never) = (
    record { signs = no_signs; start = length text; faults = fault OpenOptions blanks ∷ [] },
    inr (inl (record { blanks = blanks; unclosed = record { after = after; spells = spells; never = never }; outset_is = refl })),
  )
  outset_with (inl (inside, body, whole, closes)) =
      let words = each_words (suc (length inside)) (suc blanks) inside (omega arith) in (
        outset_of text blanks inside body words.0,
        inr (inr (record {
          inside = inside;
          body = body;
          blanks = blanks;
          options = record { spells = spells ∙ ap (λ (bytes : List ℕ). replicate blanks 32 ++ (40 ∷ bytes)) closes; whole = whole };
          words = words.0;
          words_are = words.1;
          outset_is = refl {a = outset_of text blanks inside body words.0};
        })),
      )

each_outset : (text : List ℕ) → SomeOutset text
each_outset text = let front = each_front text in by front.0 front.1
  where
    opened : (first : ℕ) (after : List ℕ) → IsUnblanked text (first ∷ after) → (first ≡ 40) ⊎ (first ≡ 40 → ⊥) → SomeOutset text
    opened first after unblanked (inl opens) =
        outset_with text after unblanked.blanks (unblanked.spells ∙ ap (λ (b : ℕ). replicate unblanked.blanks 32 ++ (b ∷ after)) opens) (each_until 41 after)
    opened first after unblanked (inr other) = outset_without text (first ∷ after) unblanked other

    by : (front : List ℕ) → IsUnblanked text front → SomeOutset text
    by [] unblanked = outset_without text [] unblanked (λ same. omega (arith, same))
    by (first ∷ after) unblanked = opened first after unblanked (cases_eq first 40)

-- Body

module _ (signs : Signs) where
  abbrev SomeBody : ℕ → List ℕ → Type 0
  SomeBody at text = (items : List Item) × (tail : List ℕ) × IsBody signs at text items tail

  body_more : (fuel at : ℕ) (text : List ℕ) → ((at : ℕ) (text : List ℕ) → length text < fuel → SomeBody at text) → length text < suc fuel → (found : Option Front) → Tells signs text found → SomeBody at text
  body_more fuel at text more below None tail = ([], text, (refl, tail))
  body_more fuel at text more below (Some front) (rest, read) =
      let is : IsItem signs at text (item_at at front) rest = record {
        spelling = read.spelling;
        text_is = read.text_is;
        spells = read.spells;
        place_is = refl;
        after_is = ap (λ (n : ℕ). at + n) read.size_is;
        alone = read.alone;
      } in
      let later = more (item_at at front).after rest (omega (arith, below, after_within signs at text rest (item_at at front) is, after_more signs at text rest (item_at at front) is)) in
      (item_at at front ∷ later.0, later.1, (rest, is, later.2))

  each_body : (fuel at : ℕ) (text : List ℕ) → length text < fuel → SomeBody at text
  each_body zero at text below = absurd (omega (arith, below))
  each_body (suc fuel) at [] below = ([], [], (refl, tt))
  each_body (suc fuel) at (byte ∷ rest) below = body_more fuel at (byte ∷ rest) (λ a t b. each_body fuel a t b) below (front_of signs byte (slice_get rest 0)) (front_tells signs byte rest)

-- A text

module _ (text : List ℕ) where
  abbrev Told : Type 0
  Told = ((pipelines : List (List Piece)) × Reads text pipelines) ⊎ ((found : Fault) × IsRefused text found)

  module _ (short : length text ≤ longest) where
    with_body : (items : List Item) (tail : List ℕ) → HasBody text items tail → (body_faults items tail (length text) ≡ []) ⊎ ((found : Fault) × IsLeast found (body_faults items tail (length text))) → Told
    with_body items tail has (inl none) =
        inl ((read_items items (length text)).pipelines, record { short = short; items = items; tail = tail; has_body = has; good = none; pipelines_are = refl })
    with_body items tail has (inr (found, is)) =
        inr (found, record { faults = body_faults items tail (length text); faults_are = inr (short, inr (record { items = items; tail = tail; has_body = has; faults_are = refl })); least_is = is })

    with_outset : (outset : Outset) → BeginsAs text outset → (outset.faults ≡ []) ⊎ ((found : Fault) × IsLeast found outset.faults) → Told
    with_outset outset begins (inl none) =
        let body = each_body outset.signs (suc (length (drop outset.start text))) outset.start (drop outset.start text) (omega arith) in
        with_body body.0 body.1 (record { outset = outset; begins = begins; good = none; body = body.2 }) (each_least (body_faults body.0 body.1 (length text)))
    with_outset outset begins (inr (found, is)) =
        inr (found, record { faults = outset.faults; faults_are = inr (short, inl (record { outset = outset; begins = begins; some = omega (arith, is.among.1); faults_are = refl })); least_is = is })

  by_length : (longest < length text) ⊎ (length text ≤ longest) → Told
  by_length (inl long) = inr (fault TooLong longest, too_long text long)
  by_length (inr short) = let outset = each_outset text in with_outset short outset.0 outset.1 (each_least outset.0.faults)

  pub each_text : ((pipelines : List (List Piece)) × Reads text pipelines) ⊎ ((found : Fault) × IsRefused text found)
  each_text = by_length (cases_lt longest (length text))
