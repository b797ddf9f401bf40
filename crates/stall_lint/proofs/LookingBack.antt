-- The search for a ring back along the links, step by step.
use Rattle.std.proofs.Common.{◌≡◌, ◌≢◌, ◌⊎◌, inl, inr, ℕ, false, zero, suc, ◌+◌, ◌-◌, ◌<◌, ◌≤◌, ◌==◌, cond, List, [], ◌∷◌, ◌++◌, length, replicate, drop, take, refl, sym, ◌∙◌, ap, subst, arith, Option, Some, slice_get, slice_set, length-set, length-drop, get_or, zero-add}
use Rattle.std.specs.List.{sum_by}
use Rattle.std.proofs.lemmas.Bool.{ne_eqb}
use Rattle.std.proofs.lemmas.List.{length-replicate}
use Rattle.std.proofs.lemmas.List.Sums.{sum_by-set}
use Rattle.std.proofs.lemmas.Option.{get_or_from_slice_get, slice_get-get_or, slice_get_within}
use Rattle.pipe_model.specs.declared.net.Net.{Net}
use Rattle.pipe_model.specs.declared.net.Link.{Link}
use Rattle.pipe_model.specs.Plain.{IsAcyclic}
use Rattle.pipe_model.specs.State.{Who}
use Rattle.pipe_model.specs.WellFormed.{IsWellFormed}
use Rattle.pipe_model.proofs.Lists.{at_some, get_copy, get_seam, get_set_same, get_set_other}
use Rattle.pipe_model.proofs.Numbers.{equal_or_not, test_same}
use Rattle.braid_check.proofs.Producing.{get_before}
use Rattle.net_graph.proofs.FormedLists.{get_more}
use Rattle.stall_lint.specs.ClosedWalks.{IsStep}
use Rattle.stall_lint.specs.LooksBack.{AllWait, ClosesAt, GoesOn, IsDone, IsFed, IsLooking, IsSearch, NoneIsNew, Waits, steps_left}
use Rattle.stall_lint.specs.Never.{HasNoDam}
use Rattle.stall_lint.specs.declared.rings.Look.{Look}
use Rattle.stall_lint.specs.declared.rings.Look.TheVariants.{New, On, Done}
use Rattle.stall_lint.proofs.FedRounds.{fed_round}
use Rattle.stall_lint.proofs.Trails.{after_last, after_other}
use Rattle.stall_lint.proofs.RingRounds.{no_later}

-- Lists

-- what stands in the front of a list
in_front : {A : Type 0} (xs : List A) (n k : ℕ) (x : A) → slice_get (take n xs) k ≡ Some x → (k < n) × (slice_get xs k ≡ Some x)
in_front xs zero k x at = cc
in_front [] (suc n) k x at = cc
in_front (y ∷ ys) (suc n) zero x at = (omega arith, at)
in_front (y ∷ ys) (suc n) (suc k) x at = (let r = in_front ys n k x at in (let lt = r.0 in omega (arith, lt), r.1))

to_front : {A : Type 0} (xs : List A) (n k : ℕ) (x : A) → k < n → slice_get xs k ≡ Some x → slice_get (take n xs) k ≡ Some x
to_front xs zero k x lt at = absurd (omega (arith, lt))
to_front [] (suc n) k x lt at = cc
to_front (y ∷ ys) (suc n) zero x lt at = at
to_front (y ∷ ys) (suc n) (suc k) x lt at = to_front ys n k x (omega (arith, lt)) at

length_front : {A : Type 0} (xs : List A) (n : ℕ) → n ≤ length xs → length (take n xs) ≡ n
length_front xs zero le = refl
length_front [] (suc n) le = absurd (omega (arith, le))
length_front (y ∷ ys) (suc n) le = ap suc (length_front ys n (omega (arith, le)))

-- what stands in the rest of a list
in_rest : {A : Type 0} (xs : List A) (n k : ℕ) → slice_get (drop n xs) k ≡ slice_get xs (n + k)
in_rest xs zero k = ap (slice_get xs) (sym (zero-add k))
in_rest [] (suc n) k = refl
in_rest (x ∷ xs) (suc n) k = in_rest xs n k ∙ ap (slice_get (x ∷ xs)) (let e : suc (n + k) ≡ suc n + k = omega arith in e)

-- what stands in a list in which something was written
written : {A : Type 0} (xs : List A) (k j : ℕ) (old x z : A) → slice_get xs k ≡ Some old → slice_get (slice_set xs k x) j ≡ Some z → ((j ≡ k) × (x ≡ z)) ⊎ ((j ≢ k) × (slice_get xs j ≡ Some z))
written xs k j old x z there at = elim (equal_or_not j k) [
  | inl it ↦ inl (it, (let e : Some x ≡ Some z = sym (get_set_same xs k x old there) ∙ ap (slice_get (slice_set xs k x)) (sym it) ∙ at in cc))
  | inr other ↦ inr (other, sym (get_set_other xs k j x other) ∙ at)
]

-- What waits

-- one link more waits with its consumer
module _ (net : Net) (n : ℕ) (waiting : List (List ℕ)) (all : AllWait net n waiting) (link : Link) (at : slice_get net.links n ≡ Some link) (numbers : List ℕ) (here : slice_get waiting link.to ≡ Some numbers) where
  abbrev more : List (List ℕ)
  more = slice_set waiting link.to (numbers ++ n ∷ [])

  still_waits : (t : Who) (j : ℕ) → Waits waiting t j → Waits more t j
  still_waits t j waits = elim (equal_or_not t link.to) [
    | inl it ↦ (
        let e : Some waits.numbers ≡ Some numbers = sym waits.here ∙ ap (slice_get waiting) it ∙ here in
        let one : waits.numbers ≡ numbers = cc in
        record {
          numbers = numbers ++ n ∷ [];
          here = ap (slice_get more) it ∙ get_set_same waiting link.to (numbers ++ n ∷ []) numbers here;
          place = waits.place;
          at = get_before numbers (n ∷ []) waits.place j (subst (λ xs. slice_get xs waits.place ≡ Some j) one waits.at);
        })
    | inr other ↦ record { numbers = waits.numbers; here = get_set_other waiting link.to t (numbers ++ n ∷ []) other ∙ waits.here; place = waits.place; at = waits.at }
  ]

  now_waits : Waits more link.to n
  now_waits = record {
    numbers = numbers ++ n ∷ [];
    here = get_set_same waiting link.to (numbers ++ n ∷ []) numbers here;
    place = length numbers;
    at = get_seam numbers n [];
  }

  led_more : (t : Who) (j : ℕ) → Waits more t j → (l : Link) × (slice_get net.links j ≡ Some l) × (l.to ≡ t)
  led_more t j waits = elim (written waiting link.to t numbers (numbers ++ n ∷ []) waits.numbers here waits.here) [
    | inl p ↦ elim (get_more numbers n waits.place j (subst (λ xs. slice_get xs waits.place ≡ Some j) (sym p.1) waits.at)) [
      | inl old ↦ all.led t j (record { numbers = numbers; here = ap (slice_get waiting) p.0 ∙ here; place = waits.place; at = old })
      | inr new ↦ (link, ap (slice_get net.links) new.1 ∙ at, sym p.0)
    ]
    | inr p ↦ all.led t j (record { numbers = waits.numbers; here = p.1; place = waits.place; at = waits.at })
  ]

  pub one_more_waits : AllWait net (n + 1) more
  one_more_waits = record {
    places = length-set waiting link.to (numbers ++ n ∷ []) ∙ all.places;
    led = led_more;
    all = λ j l lt is. elim (equal_or_not j n) [
      | inl it ↦ (
          let e : Some link ≡ Some l = sym at ∙ ap (slice_get net.links) (sym it) ∙ is in
          let one : link ≡ l = cc in
          subst (λ z. Waits more l.to z) (sym it) (subst (λ z. Waits more z n) (ap (λ m. m.to) one) now_waits))
      | inr other ↦ still_waits l.to j (all.all j l (omega (arith, lt, other)) is)
    ];
  }

-- where a list has no last one, nothing waits
pub nothing_waits : (waiting : List (List ℕ)) (s : Who) (numbers : List ℕ) → slice_get waiting s ≡ Some numbers → ((j : ℕ) → slice_get numbers (length numbers - 1) ≡ Some j → ⊥) → (j : ℕ) → Waits waiting s j → ⊥
nothing_waits waiting s numbers here no_last j waits =
    let e : Some waits.numbers ≡ Some numbers = sym waits.here ∙ here in
    let one : waits.numbers ≡ numbers = cc in
    let within = slice_get_within numbers waits.place j (subst (λ xs. slice_get xs waits.place ≡ Some j) one waits.at) in
    let last = at_some numbers (length numbers - 1) (omega (arith, within)) in
    no_last last.0 last.1

-- The links as they are read

abbrev pub no_link : Link
no_link = record { from = 0; output = 0; to = 0; input = 0; queue = false }

link_at : (links read : List Link) → read ≡ links → (j : ℕ) → j < length links → slice_get links j ≡ Some (get_or read j no_link)
link_at links read are j lt = sym (ap (λ xs. slice_get xs j) are) ∙ slice_get-get_or read j no_link (let long = ap length are in omega (arith, lt, long))

-- the next link may wait with its consumer
pub next_link : (net : Net) → IsWellFormed net → (n : ℕ) (waiting : List (List ℕ)) → AllWait net n waiting → (read : List Link) → read ≡ net.links → n < length read → (slice_get net.links n ≡ Some (get_or read n no_link)) × ((get_or read n no_link).to < length waiting)
next_link net formed n waiting all read are lt =
    let at = link_at net.links read are n (let long = ap length are in omega (arith, lt, long)) in
    let joined = formed.joined n (get_or read n no_link) at in
    let there = slice_get_within net.strands (get_or read n no_link).to joined.consumer joined.to_strand in
    let places = all.places in
    (at, omega (arith, there, places))

-- The search

-- nothing was looked at
search_begins : (net : Net) (waiting : List (List ℕ)) (looks : List Look) → AllWait net (length net.links) waiting → looks ≡ replicate (length net.strands) New → IsSearch net waiting looks []
search_begins net waiting looks all are = subst (λ z. IsSearch net waiting z []) (sym are) (record {
  places = all.places;
  led = all.led;
  count = length-replicate (length net.strands) New;
  stands = λ k s at. cc;
  on_way = λ k s at. (let e = get_copy (length net.strands) New (On k) s at in cc);
  fed = λ k s t at next. cc;
  none = λ s j done. (let e = get_copy (length net.strands) New Done s done in cc);
  rank = λ s. 0;
  next = 0;
  below = λ s done. (let e = get_copy (length net.strands) New Done s done in cc);
  known = λ j l at. inl (all.all j l (slice_get_within net.links j l at) at);
})

module _ (net : Net) (waiting : List (List ℕ)) (looks : List Look) (way : List Who) (search : IsSearch net waiting looks way) where
  -- A new strand is entered

  module _ (s : Who) (fresh : slice_get looks s ≡ Some New) (leads : (k : ℕ) (t : Who) → suc k ≡ length way → slice_get way k ≡ Some t → IsFed net t s) where
    abbrev entered : List Look
    entered = slice_set looks s (On (length way))

    done_before : (t : Who) → IsDone entered t → IsDone looks t
    done_before t done = elim (written looks s t New (On (length way)) Done fresh done) [ inl p ↦ (let e = p.1 in cc) | inr p ↦ p.1 ]

    done_after : (t : Who) → IsDone looks t → IsDone entered t
    done_after t done = get_set_other looks s t (On (length way)) (λ it. (let e : Some New ≡ Some Done = sym fresh ∙ ap (slice_get looks) (sym it) ∙ done in cc)) ∙ done

    stands_entered : (k : ℕ) (t : Who) → slice_get (way ++ s ∷ []) k ≡ Some t → slice_get entered t ≡ Some (On k)
    stands_entered k t at = elim (get_more way s k t at) [
      | inl old ↦ (
          let on = search.stands k t old in
          get_set_other looks s t (On (length way)) (λ it. (let e : Some New ≡ Some (On k) = sym fresh ∙ ap (slice_get looks) (sym it) ∙ on in cc)) ∙ on)
      | inr p ↦ ap (slice_get entered) p.1 ∙ get_set_same looks s (On (length way)) New fresh ∙ ap (λ n. Some (On n)) (sym p.0)
    ]

    on_entered : (k : ℕ) (t : Who) → slice_get entered t ≡ Some (On k) → slice_get (way ++ s ∷ []) k ≡ Some t
    on_entered k t on = elim (written looks s t New (On (length way)) (On k) fresh on) [
      | inl p ↦ (
          let e = p.1 in
          let it : length way ≡ k = cc in
          ap (slice_get (way ++ s ∷ [])) (sym it) ∙ get_seam way s [] ∙ ap Some (sym p.0))
      | inr p ↦ get_before way (s ∷ []) k t (search.on_way k t p.1)
    ]

    fed_entered : (k : ℕ) (a b : Who) → slice_get (way ++ s ∷ []) k ≡ Some a → slice_get (way ++ s ∷ []) (suc k) ≡ Some b → IsFed net a b
    fed_entered k a b at next = elim (get_more way s k a at) [
      | inl old ↦ elim (get_more way s (suc k) b next) [
        | inl old_next ↦ search.fed k a b old old_next
        | inr p ↦ subst (IsFed net a) (sym p.1) (leads k a p.0 old)
      ]
      | inr q ↦ elim (get_more way s (suc k) b next) [
        | inl old_next ↦ (let lt = slice_get_within way (suc k) b old_next in let last = q.0 in absurd (omega (arith, lt, last)))
        | inr p ↦ (let one = p.0 in let last = q.0 in absurd (omega (arith, one, last)))
      ]
    ]

    search_entered : IsSearch net waiting entered (way ++ s ∷ [])
    search_entered = record {
      places = search.places;
      led = search.led;
      count = length-set looks s (On (length way)) ∙ search.count;
      stands = stands_entered;
      on_way = on_entered;
      fed = fed_entered;
      none = λ t j done. search.none t j (done_before t done);
      rank = search.rank;
      next = search.next;
      below = λ t done. search.below t (done_before t done);
      known = λ j l at. elim (search.known j l at) [
        | inl waits ↦ inl waits
        | inr p ↦ inr (done_after l.from p.0, λ done. p.1 (done_before l.to done))
      ];
    }

    none_new_entered : NoneIsNew looks entered
    none_new_entered t new = elim (written looks s t New (On (length way)) New fresh new) [ inl p ↦ (let e = p.1 in cc) | inr p ↦ p.1 ]

    entered_less : sum_by steps_left entered + 1 ≡ sum_by steps_left looks
    entered_less =
        let changed = sum_by-set steps_left looks s (On (length way)) New (slice_get_within looks s New fresh) in
        let was = ap steps_left (get_or_from_slice_get looks s New New fresh) in
        omega (arith, changed, was)

    goes_on_entered : GoesOn net waiting looks waiting entered (way ++ s ∷ [])
    goes_on_entered = record {
      search = search_entered;
      less = (let e = entered_less in omega (arith, e));
      known = none_new_entered;
    }

  -- The last strand of the way

  module _ (s : Who) (last : slice_get way (length way - 1) ≡ Some s) where
    is_on : slice_get looks s ≡ Some (On (length way - 1))
    is_on = search.stands (length way - 1) s last

    some : 0 < length way
    some = let lt = slice_get_within way (length way - 1) s last in omega (arith, lt)

    pub last_there : s < length net.strands
    last_there = let lt = slice_get_within looks s (On (length way - 1)) is_on in let n = search.count in omega (arith, lt, n)

    -- A strand with which no link waits is left

    module _ (nothing : (j : ℕ) → Waits waiting s j → ⊥) where
      abbrev left : List Look
      left = slice_set looks s Done

      abbrev rank_left : Who → ℕ
      rank_left t = cond (t == s) search.next (search.rank t)

      rank_same : rank_left s ≡ search.next
      rank_same = ap (λ b. cond b search.next (search.rank s)) (test_same s)

      rank_other : (t : Who) → t ≢ s → rank_left t ≡ search.rank t
      rank_other t other = ap (λ b. cond b search.next (search.rank t)) (ne_eqb t s other)

      other_done : (t : Who) → IsDone looks t → t ≢ s
      other_done t done it = (let e : Some (On (length way - 1)) ≡ Some Done = sym is_on ∙ ap (slice_get looks) (sym it) ∙ done in cc)

      stands_left : (k : ℕ) (t : Who) → slice_get (take (length way - 1) way) k ≡ Some t → slice_get left t ≡ Some (On k)
      stands_left k t at =
          let r = in_front way (length way - 1) k t at in
          let lt = r.0 in
          let on = search.stands k t r.1 in
          get_set_other looks s t Done (λ it. (
          let e : Some (On (length way - 1)) ≡ Some (On k) = sym is_on ∙ ap (slice_get looks) (sym it) ∙ on in
          let same : length way - 1 ≡ k = cc in
          omega (arith, same, lt))) ∙ on

      on_left : (k : ℕ) (t : Who) → slice_get left t ≡ Some (On k) → slice_get (take (length way - 1) way) k ≡ Some t
      on_left k t on = elim (written looks s t (On (length way - 1)) Done (On k) is_on on) [
        | inl p ↦ (let e = p.1 in cc)
        | inr p ↦ (
            let at = search.on_way k t p.1 in
            let lt = slice_get_within way k t at in
            elim (equal_or_not k (length way - 1)) [
              | inl it ↦ absurd (p.0 (let e : Some t ≡ Some s = sym at ∙ ap (slice_get way) it ∙ last in cc))
              | inr other ↦ to_front way (length way - 1) k t (omega (arith, lt, other)) at
            ])
      ]

      search_left : IsSearch net waiting left (take (length way - 1) way)
      search_left = record {
        places = search.places;
        led = search.led;
        count = length-set looks s Done ∙ search.count;
        stands = stands_left;
        on_way = on_left;
        fed = λ k a b at next. search.fed k a b (in_front way (length way - 1) k a at).1 (in_front way (length way - 1) (suc k) b next).1;
        none = λ t j done. elim (written looks s t (On (length way - 1)) Done Done is_on done) [
          | inl p ↦ (λ waits. nothing j (subst (λ z. Waits waiting z j) p.0 waits))
          | inr p ↦ search.none t j p.1
        ];
        rank = rank_left;
        next = suc search.next;
        below = λ t done. elim (written looks s t (On (length way - 1)) Done Done is_on done) [
          | inl p ↦ (let e = ap rank_left p.0 ∙ rank_same in omega (arith, e))
          | inr p ↦ (let e = rank_other t p.0 in let less = search.below t p.1 in omega (arith, e, less))
        ];
        known = λ j l at. elim (search.known j l at) [
          | inl waits ↦ inl waits
          | inr p ↦ inr (
            get_set_other looks s l.from Done (other_done l.from p.0) ∙ p.0,
            λ done. elim (written looks s l.to (On (length way - 1)) Done Done is_on done) [
              | inl q ↦ (let e = ap rank_left q.0 ∙ rank_same in let from = rank_other l.from (other_done l.from p.0) in let less = search.below l.from p.0 in omega (arith, e, from, less))
              | inr q ↦ (let e = rank_other l.to q.0 in let from = rank_other l.from (other_done l.from p.0) in let less = p.1 q.1 in omega (arith, e, from, less))
            ],
          )
        ];
      }

      pub goes_on_left : GoesOn net waiting looks waiting left (take (length way - 1) way)
      goes_on_left = record {
        search = search_left;
        less = (
            let changed = sum_by-set steps_left looks s Done New (slice_get_within looks s (On (length way - 1)) is_on) in
            let was = ap steps_left (get_or_from_slice_get looks s (On (length way - 1)) New is_on) in
            omega (arith, changed, was));
        known = λ t new. elim (written looks s t (On (length way - 1)) Done New is_on new) [ inl p ↦ (let e = p.1 in cc) | inr p ↦ p.1 ];
      }

    -- The last link that waits with it

    module _ (numbers : List ℕ) (here : slice_get waiting s ≡ Some numbers) (number : ℕ) (is : slice_get numbers (length numbers - 1) ≡ Some number) where
      waits : Waits waiting s number
      waits = record { numbers = numbers; here = here; place = length numbers - 1; at = is }

      -- it leads to this strand
      followed : (l : Link) × (slice_get net.links number ≡ Some l) × (l.to ≡ s)
      followed = search.led s number waits

      module _ (link : Link) (at : slice_get net.links number ≡ Some link) where
        to_is : link.to ≡ s
        to_is = (let e : Some followed.0 ≡ Some link = sym followed.1 ∙ at in let one : followed.0 ≡ link = cc in ap (λ l. l.to) (sym one) ∙ followed.2)

        fed_last : IsFed net s link.from
        fed_last = (number, link, at, refl, to_is)

        -- from a new strand, which is entered
        pub goes_on_new : slice_get looks link.from ≡ Some New → GoesOn net waiting looks waiting (slice_set looks link.from (On (length way))) (way ++ link.from ∷ [])
        goes_on_new fresh = goes_on_entered link.from fresh (λ k t one is_t. (
            let e : k ≡ length way - 1 = omega (arith, one) in
            let z : Some s ≡ Some t = sym last ∙ ap (slice_get way) (sym e) ∙ is_t in
            let it : s ≡ t = cc in
            subst (λ x. IsFed net x link.from) it fed_last))

        -- from a strand that is done: it waits no more
        module _ (done : IsDone looks link.from) where
          abbrev popped : List (List ℕ)
          popped = slice_set waiting s (take (length numbers - 1) numbers)

          waited : (t : Who) (j : ℕ) → Waits popped t j → Waits waiting t j
          waited t j more = elim (written waiting s t numbers (take (length numbers - 1) numbers) more.numbers here more.here) [
            | inl p ↦ record {
              numbers = numbers;
              here = ap (slice_get waiting) p.0 ∙ here;
              place = more.place;
              at = (in_front numbers (length numbers - 1) more.place j (subst (λ xs. slice_get xs more.place ≡ Some j) (sym p.1) more.at)).1;
            }
            | inr p ↦ record { numbers = more.numbers; here = p.1; place = more.place; at = more.at }
          ]

          known_popped : (j : ℕ) (l : Link) → slice_get net.links j ≡ Some l → Waits waiting l.to j → Waits popped l.to j ⊎ (IsDone looks l.from × (IsDone looks l.to → search.rank l.from < search.rank l.to))
          known_popped j l is_l old = elim (equal_or_not l.to s) [
            | inr other ↦ inl (record { numbers = old.numbers; here = get_set_other waiting s l.to (take (length numbers - 1) numbers) other ∙ old.here; place = old.place; at = old.at })
            | inl it ↦ (
                let e : Some old.numbers ≡ Some numbers = sym old.here ∙ ap (slice_get waiting) it ∙ here in
                let one : old.numbers ≡ numbers = cc in
                let placed : slice_get numbers old.place ≡ Some j = subst (λ xs. slice_get xs old.place ≡ Some j) one old.at in
                let within = slice_get_within numbers old.place j placed in
                elim (equal_or_not old.place (length numbers - 1)) [
                  | inr before ↦ inl (record {
                    numbers = take (length numbers - 1) numbers;
                    here = ap (slice_get popped) it ∙ get_set_same waiting s (take (length numbers - 1) numbers) numbers here;
                    place = old.place;
                    at = to_front numbers (length numbers - 1) old.place j (omega (arith, within, before)) placed;
                  })
                  | inl end ↦ (
                      let e : Some number ≡ Some j = sym is ∙ ap (slice_get numbers) (sym end) ∙ placed in
                      let same : number ≡ j = cc in
                      let links : Some link ≡ Some l = sym at ∙ ap (slice_get net.links) same ∙ is_l in
                      let l_is : link ≡ l = cc in
                      inr (
                        ap (λ (m : Link). slice_get looks m.from) (sym l_is) ∙ done,
                        λ done_to. (let z : Some (On (length way - 1)) ≡ Some Done = sym is_on ∙ ap (slice_get looks) (sym it) ∙ done_to in cc),
                      ))
                ])
          ]

          search_popped : IsSearch net popped looks way
          search_popped = record {
            places = length-set waiting s (take (length numbers - 1) numbers) ∙ search.places;
            led = λ t j more. search.led t j (waited t j more);
            count = search.count;
            stands = search.stands;
            on_way = search.on_way;
            fed = search.fed;
            none = λ t j is_done more. search.none t j is_done (waited t j more);
            rank = search.rank;
            next = search.next;
            below = search.below;
            known = λ j l is_l. elim (search.known j l is_l) [ inl old ↦ known_popped j l is_l old | inr p ↦ inr p ];
          }

          pub goes_on_popped : GoesOn net waiting looks popped looks way
          goes_on_popped = record {
            search = search_popped;
            less = (
                let changed = sum_by-set length waiting s (take (length numbers - 1) numbers) [] (slice_get_within waiting s numbers here) in
                let was = ap length (get_or_from_slice_get waiting s numbers [] here) in
                let some_number = slice_get_within numbers (length numbers - 1) number is in
                let long = length_front numbers (length numbers - 1) (omega arith) in
                omega (arith, changed, was, some_number, long));
            known = λ t new. new;
          }

        -- from a strand on the way: there it closes
        module _ (place : ℕ) (on : slice_get looks link.from ≡ Some (On place)) where
          abbrev walk : List Who
          walk = drop place way

          begins_at : slice_get way place ≡ Some link.from
          begins_at = search.on_way place link.from on

          in_walk : (k : ℕ) (t : Who) → slice_get walk k ≡ Some t → slice_get way (place + k) ≡ Some t
          in_walk k t is_t = sym (in_rest way place k) ∙ is_t

          steps : (k : ℕ) (a b : Who) → IsStep walk k a b → IsFed net a b
          steps k a b step =
              let here_a = in_walk k a step.here in
              let long = length-drop place way in
              let within = slice_get_within way place link.from begins_at in
              elim (equal_or_not (suc k) (length walk)) [
                | inl end ↦ (
                    let at_b = in_walk 0 b (ap (slice_get walk) (sym (after_last (length walk) k end)) ∙ step.next) in
                    let first : place + 0 ≡ place = omega arith in
                    let e : Some link.from ≡ Some b = sym begins_at ∙ ap (slice_get way) (sym first) ∙ at_b in
                    let is_b : link.from ≡ b = cc in
                    let final : place + k ≡ length way - 1 = omega (arith, end, long, within) in
                    let f : Some s ≡ Some a = sym last ∙ ap (slice_get way) (sym final) ∙ here_a in
                    let is_a : s ≡ a = cc in
                    subst (λ z. IsFed net z b) is_a (subst (IsFed net s) is_b fed_last))
                | inr other ↦ (
                    let at_b = in_walk (suc k) b (ap (slice_get walk) (sym (after_other (length walk) k other)) ∙ step.next) in
                    let further : place + suc k ≡ suc (place + k) = omega arith in
                    search.fed (place + k) a b here_a (ap (slice_get way) (sym further) ∙ at_b))
              ]

          pub closes : ClosesAt net way place
          closes =
              let within = slice_get_within way place link.from begins_at in
              let long = length-drop place way in
              record {
                within = omega (arith, within);
                ring = fed_round net walk (omega (arith, within, long))
                    (λ j k t at_j at_k. (
                    let a = search.stands (place + j) t (in_walk j t at_j) in
                    let b = search.stands (place + k) t (in_walk k t at_k) in
                    let e : Some (On (place + j)) ≡ Some (On (place + k)) = sym a ∙ b in
                    let one : place + j ≡ place + k = cc in
                    omega (arith, one)))
                    steps;
              }

-- The last link that waits with the last strand of the way, as it is read

pub record IsRead (net : Net) (waiting : List (List ℕ)) (looks : List Look) (s : Who) (numbers : List ℕ) (number : ℕ) (link : Link) : Type 0 where
  pub here : slice_get waiting s ≡ Some numbers
  pub is : slice_get numbers (length numbers - 1) ≡ Some number
  pub at : slice_get net.links number ≡ Some link
  pub from_there : link.from < length looks

pub numbers_read : (net : Net) (waiting : List (List ℕ)) (looks : List Look) (way : List Who) → IsSearch net waiting looks way → (s : Who) → slice_get way (length way - 1) ≡ Some s → (read : List ℕ) → slice_get waiting s ≡ Some (get_or waiting s read)
numbers_read net waiting looks way search s last read =
    let there = last_there net waiting looks way search s last in
    let places = search.places in
    slice_get-get_or waiting s read (omega (arith, there, places))

pub is_read : (net : Net) → IsWellFormed net → (waiting : List (List ℕ)) (looks : List Look) (way : List Who) → IsSearch net waiting looks way → (s : Who) → slice_get way (length way - 1) ≡ Some s → (read : List ℕ) (found : Option ℕ) → found ≡ slice_get (get_or waiting s read) (length (get_or waiting s read) - 1) → (number : ℕ) → found ≡ Some number → (links : List Link) → links ≡ net.links → IsRead net waiting looks s (get_or waiting s read) number (get_or links number no_link)
is_read net formed waiting looks way search s last read found told number is_some links are =
    let here = numbers_read net waiting looks way search s last read in
    let is = sym told ∙ is_some in
    let led = followed net waiting looks way search s last (get_or waiting s read) here number is in
    let at = link_at net.links links are number (slice_get_within net.links number led.0 led.1) in
    let joined = formed.joined number (get_or links number no_link) at in
    let there = slice_get_within net.strands (get_or links number no_link).from joined.producer joined.from_strand in
    let count = search.count in
    record { here = here; is = is; at = at; from_there = omega (arith, there, count) }

-- what is known of a strand, as it is read
pub look_at : (looks : List Look) (s : Who) (old look : Look) → s < length looks → get_or looks s old ≡ look → slice_get looks s ≡ Some look
look_at looks s old look lt is = slice_get-get_or looks s old lt ∙ ap Some is

-- From one strand

pub looking_begins : (net : Net) (waiting : List (List ℕ)) (looks : List Look) → IsSearch net waiting looks [] → (start : Who) → slice_get looks start ≡ Some New → IsLooking net start looks waiting (slice_set looks start (On 0)) (start ∷ [])
looking_begins net waiting looks search start fresh =
    let on = goes_on_entered net waiting looks [] search start fresh (λ k t one at. cc) in
    record {
      search = on.search;
      known = on.known;
      itself = λ new. (let e : Some (On 0) ≡ Some New = sym (get_set_same looks start (On 0) New fresh) ∙ new in cc);
    }

-- From all

-- a search from each of the first n strands
pub record AreLooked (net : Net) (n : ℕ) (waiting : List (List ℕ)) (looks : List Look) : Type 0 where
  pub search : IsSearch net waiting looks []
  pub looked : (s : Who) → s < n → slice_get looks s ≡ Some New → ⊥

pub none_looked : (net : Net) (waiting : List (List ℕ)) (looks : List Look) → AllWait net (length net.links) waiting → looks ≡ replicate (length net.strands) New → AreLooked net 0 waiting looks
none_looked net waiting looks all are = record { search = search_begins net waiting looks all are; looked = λ s lt. absurd (omega (arith, lt)) }

pub one_more_looked : (net : Net) (n : ℕ) (waiting new_waiting : List (List ℕ)) (looks new_looks : List Look) → AreLooked net n waiting looks → IsLooking net n looks new_waiting new_looks [] → AreLooked net (n + 1) new_waiting new_looks
one_more_looked net n waiting new_waiting looks new_looks are more = record {
  search = more.search;
  looked = λ s lt new. elim (equal_or_not s n) [
    | inl it ↦ more.itself (ap (slice_get new_looks) (sym it) ∙ new)
    | inr other ↦ are.looked s (omega (arith, lt, other)) (more.known s new)
  ];
}

pub was_looked : (net : Net) (n : ℕ) (waiting : List (List ℕ)) (looks : List Look) → AreLooked net n waiting looks → (slice_get looks n ≡ Some New → ⊥) → AreLooked net (n + 1) waiting looks
was_looked net n waiting looks are known = record {
  search = are.search;
  looked = λ s lt. elim (equal_or_not s n) [
    | inl it ↦ (λ new. known (ap (slice_get looks) (sym it) ∙ new))
    | inr other ↦ are.looked s (omega (arith, lt, other))
  ];
}

-- Where all strands were looked at there is no cycle

pub all_ranked : (net : Net) → IsWellFormed net → HasNoDam net → (n : ℕ) (waiting : List (List ℕ)) (looks : List Look) → length net.strands ≤ n → AreLooked net n waiting looks → IsAcyclic net
all_ranked net formed undammed n waiting looks all are = record {
  rank = are.search.rank;
  along = λ j l at. elim (are.search.known j l at) [
    | inl waits ↦ absurd (are.search.none l.to j (is_done l.to (to_there j l at)) waits)
    | inr p ↦ p.1 (is_done l.to (to_there j l at))
  ];
  parts = λ s waits. absurd (no_later net undammed s (slice_get net.strands s) refl waits);
}
  where
    to_there : (j : ℕ) (l : Link) → slice_get net.links j ≡ Some l → l.to < length net.strands
    to_there j l at = (let joined = formed.joined j l at in slice_get_within net.strands l.to joined.consumer joined.to_strand)

    is_done : (s : Who) → s < length net.strands → IsDone looks s
    is_done s lt = (let n = are.search.count in let x = at_some looks s (omega (arith, lt, n)) in by x.0 x.1)
      where
        by : (x : Look) → slice_get looks s ≡ Some x → IsDone looks s
        by New is = absurd (are.looked s (omega (arith, lt, all)) is)
        by (On k) is = (let e = are.search.on_way k s is in cc)
        by Done is = is
