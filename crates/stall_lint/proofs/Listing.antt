-- The edges of each group: one link more is listed, or the last of a group is taken.
use Rattle.std.proofs.Common.{◌≡◌, ◌≢◌, ◌⊎◌, inl, inr, ℕ, ◌+◌, ◌<◌, true, false, List, [], ◌∷◌, ◌++◌, length, length-set, sym, ◌∙◌, ap, subst, arith, Option, Some, None, slice_get, slice_index_or, get_or-set_same, get_or-set_other}
use Rattle.std.proofs.lemmas.Option.{slice_get-get_or}
use Rattle.pipe_model.specs.declared.net.Net.{Net}
use Rattle.pipe_model.specs.declared.net.Link.{Link}
use Rattle.pipe_model.specs.Members.{has}
use Rattle.pipe_model.proofs.Numbers.{equal_or_not}
use Rattle.braid_check.proofs.Waking.{has_back, has_either, has_first, has_front, has_one}
use Rattle.stall_lint.specs.Groups.{IsInner}
use Rattle.stall_lint.specs.Listed.{AreListed, HaveLabels, IsPopped, IsTaken, Joins, edges_at, with_edge}

-- What an edge joins

module _ (net : Net) (labels : List ℕ) where
  pub joins_back : (j g h : ℕ) → Joins net labels j g h → Joins net labels j h g
  joins_back j g h joins = record { link = joins.link; at = joins.at; edge = joins.edge; ends = swapped joins.ends }
    where
      swapped : {A B : Type 0} → A ⊎ B → B ⊎ A
      swapped (inl e) = inr e
      swapped (inr e) = inl e

  pub one_label : (s t g h : ℕ) → s ≡ t → slice_get labels s ≡ Some g → slice_get labels t ≡ Some h → g ≡ h
  one_label s t g h same at_s at_t = cc

  -- it joins no other two
  pub joins_two : (j g h a b : ℕ) → Joins net labels j g h → Joins net labels j a b → ((g ≡ a) × (h ≡ b)) ⊎ ((g ≡ b) × (h ≡ a))
  joins_two j g h a b one two = by one.ends two.ends
    where
      same : one.link ≡ two.link
      same = (let e : Some one.link ≡ Some two.link = sym one.at ∙ two.at in cc)

      first : (x y : ℕ) → slice_get labels one.link.from ≡ Some x → slice_get labels two.link.from ≡ Some y → x ≡ y
      first x y = one_label one.link.from two.link.from x y (ap (λ l. l.from) same)

      second : (x y : ℕ) → slice_get labels one.link.to ≡ Some x → slice_get labels two.link.to ≡ Some y → x ≡ y
      second x y = one_label one.link.to two.link.to x y (ap (λ l. l.to) same)

      by : HaveLabels labels one.link.from one.link.to g h ⊎ HaveLabels labels one.link.from one.link.to h g → HaveLabels labels two.link.from two.link.to a b ⊎ HaveLabels labels two.link.from two.link.to b a → ((g ≡ a) × (h ≡ b)) ⊎ ((g ≡ b) × (h ≡ a))
      by (inl x) (inl y) = inl (first g a x.0 y.0, second h b x.1 y.1)
      by (inl x) (inr y) = inr (first g b x.0 y.0, second h a x.1 y.1)
      by (inr x) (inl y) = inr (second g b x.1 y.1, first h a x.0 y.0)
      by (inr x) (inr y) = inl (second g a x.1 y.1, first h b x.0 y.0)

  -- from one of the two it leads to one other
  pub joins_other : (j g h b : ℕ) → Joins net labels j g h → Joins net labels j g b → h ≡ b
  joins_other j g h b one two = elim (joins_two j g h g b one two) [ inl same ↦ same.1 | inr turned ↦ turned.1 ∙ turned.0 ]

-- The link that was read at a place

abbrev pub no_link : Link
no_link = record { from = 0; output = 0; to = 0; input = 0; queue = false }

pub link_at : (shown links : List Link) (j : ℕ) → shown ≡ links → j < length links → slice_get links j ≡ Some (slice_index_or shown j no_link)
link_at shown links j same lt = let long = ap length same in ap (λ xs. slice_get xs j) (sym same) ∙ slice_get-get_or shown j no_link (omega (arith, lt, long))

-- One edge more for a group

added_at : (edges : List (List ℕ)) (g j : ℕ) → g < length edges → edges_at (with_edge edges g j) g ≡ edges_at edges g ++ j ∷ []
added_at edges g j lt = get_or-set_same edges g (edges_at edges g ++ j ∷ []) [] lt

added_else : (edges : List (List ℕ)) (g j a : ℕ) → a ≢ g → edges_at (with_edge edges g j) a ≡ edges_at edges a
added_else edges g j a apart = get_or-set_other edges g a (edges_at edges g ++ j ∷ []) [] apart

added_there : (edges : List (List ℕ)) (g j : ℕ) → g < length edges → has (edges_at (with_edge edges g j) g) j ≡ true
added_there edges g j lt = ap (λ z. has z j) (added_at edges g j lt) ∙ has_back (edges_at edges g) (j ∷ []) j (has_first j)

added_kept : (edges : List (List ℕ)) (g j a i : ℕ) → g < length edges → has (edges_at edges a) i ≡ true → has (edges_at (with_edge edges g j) a) i ≡ true
added_kept edges g j a i lt on = elim (equal_or_not a g) [
  | inl same ↦ subst (λ z. has (edges_at (with_edge edges g j) z) i ≡ true) (sym same) (ap (λ z. has z i) (added_at edges g j lt) ∙ has_front (edges_at edges g) (j ∷ []) i (ap (λ z. has (edges_at edges z) i) (sym same) ∙ on))
  | inr apart ↦ ap (λ z. has z i) (added_else edges g j a apart) ∙ on
]

added_only : (edges : List (List ℕ)) (g j a i : ℕ) → g < length edges → has (edges_at (with_edge edges g j) a) i ≡ true → (has (edges_at edges a) i ≡ true) ⊎ ((a ≡ g) × (i ≡ j))
added_only edges g j a i lt on = elim (equal_or_not a g) [
  | inl same ↦ by same (has_either (edges_at edges g) (j ∷ []) i (ap (λ z. has z i) (sym (added_at edges g j lt)) ∙ ap (λ z. has (edges_at (with_edge edges g j) z) i) (sym same) ∙ on))
  | inr apart ↦ inl (ap (λ z. has z i) (sym (added_else edges g j a apart)) ∙ on)
]
  where
    by : a ≡ g → (has (edges_at edges g) i ≡ true) ⊎ (has (j ∷ []) i ≡ true) → (has (edges_at edges a) i ≡ true) ⊎ ((a ≡ g) × (i ≡ j))
    by same (inl before) = inl (ap (λ z. has (edges_at edges z) i) same ∙ before)
    by same (inr new) = inr (same, has_one j i new)

pub added_count : (edges : List (List ℕ)) (g j : ℕ) → length (with_edge edges g j) ≡ length edges
added_count edges g j = length-set edges g (edges_at edges g ++ j ∷ [])

-- One link more is listed

module _ (net : Net) (labels : List ℕ) where
  pub none_listed : (edges : List (List ℕ)) → length edges ≡ length labels → ((g : ℕ) → edges_at edges g ≡ []) → AreListed net labels 0 edges
  none_listed edges count none = record {
    count = count;
    among = λ g j on. (let e = ap (λ z. has z j) (sym (none g)) ∙ on in absurd (cc e));
    all = λ j g h lt joins. absurd (omega (arith, lt));
  }

  pub inner_listed : (n : ℕ) (edges : List (List ℕ)) (l : Link) → AreListed net labels n edges → slice_get net.links n ≡ Some l → IsInner net l → AreListed net labels (n + 1) edges
  inner_listed n edges l listed at inner = record {
    count = listed.count;
    among = listed.among;
    all = λ j g h lt joins. elim (equal_or_not j n) [
      | inl it ↦ (let same : joins.link ≡ l = (let e : Some joins.link ≡ Some l = sym joins.at ∙ ap (slice_get net.links) it ∙ at in cc) in absurd (joins.edge (subst (IsInner net) (sym same) inner)))
      | inr other ↦ listed.all j g h (omega (arith, lt, other)) joins
    ];
  }

  pub edge_listed : (n : ℕ) (edges : List (List ℕ)) (a b : ℕ) → AreListed net labels n edges → Joins net labels n a b → a < length edges → b < length edges → AreListed net labels (n + 1) (with_edge (with_edge edges a n) b n)
  edge_listed n edges a b listed it a_lt b_lt = record { count = added_count first b n ∙ added_count edges a n ∙ listed.count; among = among; all = all }
    where
      first : List (List ℕ)
      first = with_edge edges a n

      long : b < length first
      long = (let e = added_count edges a n in omega (arith, e, b_lt))

      among : (g j : ℕ) → has (edges_at (with_edge first b n) g) j ≡ true → (h : ℕ) × Joins net labels j g h
      among g j on = elim (added_only first b n g j long on) [
        | inl before ↦ (elim (added_only edges a n g j a_lt before) [
          | inl old ↦ listed.among g j old
          | inr new ↦ (b, subst (λ z. Joins net labels z g b) (sym new.1) (subst (λ z. Joins net labels n z b) (sym new.0) it))
        ])
        | inr new ↦ (a, subst (λ z. Joins net labels z g a) (sym new.1) (subst (λ z. Joins net labels n z a) (sym new.0) (joins_back net labels n a b it)))
      ]

      there : (g h : ℕ) → Joins net labels n g h → has (edges_at (with_edge first b n) g) n ≡ true
      there g h joins = elim (joins_two net labels n g h a b joins it) [
        | inl same ↦ subst (λ z. has (edges_at (with_edge first b n) z) n ≡ true) (sym same.0) (added_kept first b n a n long (added_there edges a n a_lt))
        | inr turned ↦ subst (λ z. has (edges_at (with_edge first b n) z) n ≡ true) (sym turned.0) (added_there first b n long)
      ]

      all : (j g h : ℕ) → j < n + 1 → Joins net labels j g h → has (edges_at (with_edge first b n) g) j ≡ true
      all j g h lt joins = elim (equal_or_not j n) [
        | inl same ↦ subst (λ z. has (edges_at (with_edge first b n) g) z ≡ true) (sym same) (there g h (subst (λ z. Joins net labels z g h) same joins))
        | inr other ↦ added_kept first b n g j long (added_kept edges a n g j a_lt (listed.all j g h (omega (arith, lt, other)) joins))
      ]

-- The last of a group is taken

popped_old : (old : List ℕ) (taken : Option ℕ) (rest : List ℕ) (j : ℕ) → IsPopped old taken rest → has rest j ≡ true → has old j ≡ true
popped_old old None rest j popped on = ap (λ z. has z j) (popped.0 ∙ sym popped.1) ∙ on
popped_old old (Some i) rest j popped on = ap (λ z. has z j) popped ∙ has_front rest (i ∷ []) j on

popped_new : (old : List ℕ) (taken : Option ℕ) (rest : List ℕ) (j : ℕ) → IsPopped old taken rest → has old j ≡ true → (has rest j ≡ true) ⊎ (taken ≡ Some j)
popped_new old None rest j popped on = inl (ap (λ z. has z j) (popped.1 ∙ sym popped.0) ∙ on)
popped_new old (Some i) rest j popped on = elim (has_either rest (i ∷ []) j (ap (λ z. has z j) (sym popped) ∙ on)) [ inl before ↦ inl before | inr last ↦ inr (ap Some (sym (has_one i j last))) ]

module _ (old : List (List ℕ)) (at : ℕ) (taken : Option ℕ) (new : List (List ℕ)) (took : IsTaken old at taken new) (within : at < length old) where
  pub taken_at : edges_at new at ≡ took.0
  taken_at = ap (λ z. edges_at z at) took.2 ∙ get_or-set_same old at took.0 [] within

  pub taken_else : (g : ℕ) → g ≢ at → edges_at new g ≡ edges_at old g
  taken_else g apart = ap (λ z. edges_at z g) took.2 ∙ get_or-set_other old at g took.0 [] apart

  pub taken_count : length new ≡ length old
  taken_count = ap length took.2 ∙ length-set old at took.0

  pub taken_old : (g j : ℕ) → has (edges_at new g) j ≡ true → has (edges_at old g) j ≡ true
  taken_old g j on = elim (equal_or_not g at) [
    | inl same ↦ ap (λ z. has (edges_at old z) j) same ∙ popped_old (edges_at old at) taken took.0 j took.1 (ap (λ z. has z j) (sym taken_at) ∙ ap (λ z. has (edges_at new z) j) (sym same) ∙ on)
    | inr apart ↦ ap (λ z. has z j) (sym (taken_else g apart)) ∙ on
  ]

  pub taken_new : (g j : ℕ) → has (edges_at old g) j ≡ true → (has (edges_at new g) j ≡ true) ⊎ ((g ≡ at) × (taken ≡ Some j))
  taken_new g j on = elim (equal_or_not g at) [
    | inl same ↦ by same (popped_new (edges_at old at) taken took.0 j took.1 (ap (λ z. has (edges_at old z) j) (sym same) ∙ on))
    | inr apart ↦ inl (ap (λ z. has z j) (taken_else g apart) ∙ on)
  ]
    where
      by : g ≡ at → (has took.0 j ≡ true) ⊎ (taken ≡ Some j) → (has (edges_at new g) j ≡ true) ⊎ ((g ≡ at) × (taken ≡ Some j))
      by same (inl rest) = inl (ap (λ z. has (edges_at new z) j) same ∙ ap (λ z. has z j) taken_at ∙ rest)
      by same (inr it) = inr (same, it)
