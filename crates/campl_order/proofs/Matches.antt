-- The tree of matches: who wins at the top, and what a change of one flag leaves decided.
use Rattle.std.proofs.Common.{◌≡◌, ◌≢◌, ◌≤◌, ◌<◌, ◌+◌, ◌-◌, ◌*◌, ◌/◌, ◌⊎◌, inl, inr, ℕ, zero, suc, Bool, true, false, List, [], ◌∷◌, Option, Some, None, length, set, nat_lt, slice_index_or, refl, sym, ap, ap₂, subst, ◌∙◌, arith, if◌then◌else◌, IfSome, ◌&&◌, eqb, eqb-true, eq-eqb, le-ltb, lt-ltb, ltb-true, ltb-false, length-set, get_or-set_other, get_or-set_same}
use Rattle.campl_order.specs.Boards.{is_flagged, entrant, better, IsDecided, AllBut, IsBoard, Within, IsFirstFlagged}
use Rattle.campl_machine.proofs.Updates.{split, decides}

-- numbers are equal or not
pub same : (a b : ℕ) → (a ≡ b) ⊎ (a ≢ b)
same = decides eqb (record { is = eqb-true; own = λ a. eq-eqb a a refl })

pub flagged-within : (fs : List Bool) (j : ℕ) → is_flagged fs j ≡ true → j < length fs
flagged-within [] j e = absurd (let f : false ≡ true = e in let g : ⊥ = cc in g)
flagged-within (x ∷ fs) zero e = omega arith
flagged-within (x ∷ fs) (suc j) e = let h = flagged-within fs j e in omega (arith, h)

-- an order that doesn't need to tell all apart
pub record IsOrder (lt : ℕ → ℕ → Bool) : Type 0 where
  pub own : (i : ℕ) → lt i i ≡ false
  pub through : (i j k : ℕ) → lt i j ≡ false → lt j k ≡ false → lt i k ≡ false
  pub one_way : (i j : ℕ) → lt i j ≡ true → lt j i ≡ false

half-below : (k n : ℕ) → k < 2 * n → k / 2 < n
half-below k n h = omega arith

half-pos : (k : ℕ) → 1 < k → 0 < k / 2
half-pos k h = omega arith

half-less : (k : ℕ) → 1 < k → k / 2 < k
half-less k h = omega arith

half-is : (k : ℕ) → (k ≡ 2 * (k / 2)) ⊎ (k ≡ 2 * (k / 2) + 1)
half-is k = elim (same k (2 * (k / 2))) [ inl e ↦ inl e | inr e ↦ inr (omega arith) ]

module _ (lt : ℕ → ℕ → Bool) (o : IsOrder lt) where
  better-left : (j : ℕ) (b : Option ℕ) → (i : ℕ) × (better lt (Some j) b ≡ Some i) × (lt j i ≡ false)
  better-left j None = (j, refl, o.own j)
  better-left j (Some b) = elim (split (lt b j)) [
    | inl e ↦ (b, ap (λ c. if c then Some b else Some j) e, o.one_way b j e)
    | inr e ↦ (j, ap (λ c. if c then Some b else Some j) e, o.own j)
  ]

  better-right : (j : ℕ) (a : Option ℕ) → (i : ℕ) × (better lt a (Some j) ≡ Some i) × (lt j i ≡ false)
  better-right j None = (j, refl, o.own j)
  better-right j (Some a) = elim (split (lt j a)) [
    | inl e ↦ (j, ap (λ c. if c then Some j else Some a) e, o.own j)
    | inr e ↦ (a, ap (λ c. if c then Some j else Some a) e, e)
  ]

  better-one : (a b : Option ℕ) (i : ℕ) → better lt a b ≡ Some i → (a ≡ Some i) ⊎ (b ≡ Some i)
  better-one None b i e = inr e
  better-one (Some x) None i e = inl e
  better-one (Some x) (Some y) i e = elim (split (lt y x)) [
    | inl l ↦ inr (sym (ap (λ c. if c then Some y else Some x) l) ∙ e)
    | inr l ↦ inl (sym (ap (λ c. if c then Some y else Some x) l) ∙ e)
  ]

  module _ (fs : List Bool) (ws : List (Option ℕ)) (sized : length fs ≡ length ws) (pos : 0 < length ws) (b : IsBoard lt fs ws) where
    inner : (k : ℕ) → k < length ws → entrant fs ws k ≡ slice_index_or ws k None
    inner k h = ap (λ c. if c then slice_index_or ws k None else if is_flagged fs (k - length ws) then Some (k - length ws) else None) (lt-ltb k (length ws) h)

    outer : (k : ℕ) → length ws ≤ k → entrant fs ws k ≡ (if is_flagged fs (k - length ws) then Some (k - length ws) else None)
    outer k h = ap (λ c. if c then slice_index_or ws k None else if is_flagged fs (k - length ws) then Some (k - length ws) else None) (le-ltb k (length ws) h)

    -- whoever comes from a place doesn't stand before the winner at the top
    beats : (fuel k : ℕ) → k ≤ fuel → 0 < k → k < 2 * length ws → (j : ℕ) → entrant fs ws k ≡ Some j → (i : ℕ) × (entrant fs ws 1 ≡ Some i) × (lt j i ≡ false)
    beats zero k l p h j e = absurd (let f : ⊥ = omega arith in f)
    beats (suc fuel) k l p h j e = elim (same 1 k) [
      | inl q ↦ (j, ap (entrant fs ws) q ∙ e, o.own j)
      | inr q ↦
          let big : 1 < k = omega arith in
          let hb : k / 2 < length ws = half-below k (length ws) h in
          let hp : 0 < k / 2 = half-pos k big in
          let hl : k / 2 < k = half-less k big in
          let up : (i : ℕ) × (entrant fs ws (k / 2) ≡ Some i) × (lt j i ≡ false) = elim (half-is k) [
            | inl r ↦
                let w = better-left j (entrant fs ws (2 * (k / 2) + 1)) in
                (w.0, inner (k / 2) hb ∙ (b (k / 2) hp hb ∙ (ap (λ (x : Option ℕ). better lt x (entrant fs ws (2 * (k / 2) + 1))) (ap (entrant fs ws) (sym r) ∙ e) ∙ w.1)), w.2)
            | inr r ↦
                let w = better-right j (entrant fs ws (2 * (k / 2))) in
                (w.0, inner (k / 2) hb ∙ (b (k / 2) hp hb ∙ (ap (λ (x : Option ℕ). better lt (entrant fs ws (2 * (k / 2))) x) (ap (entrant fs ws) (sym r) ∙ e) ∙ w.1)), w.2)
          ] in
          let rest = beats fuel (k / 2) (omega arith) hp (omega arith) up.0 up.1 in
          (rest.0, rest.1, o.through j up.0 rest.0 up.2 rest.2)
    ]

    -- whoever comes from a place is flagged
    from-outer : (k : ℕ) → length ws ≤ k → (i : ℕ) → entrant fs ws k ≡ Some i → is_flagged fs i ≡ true
    from-outer k h i e = elim (split (is_flagged fs (k - length ws))) [
      | inl f ↦
          let q : Some (k - length ws) ≡ Some i = sym (outer k h ∙ ap (λ (c : Bool). if c then Some (k - length ws) else None) f) ∙ e in
          let r : k - length ws ≡ i = cc in
          subst (λ x. is_flagged fs x ≡ true) r f
      | inr f ↦
          let q : None ≡ Some i = sym (outer k h ∙ ap (λ (c : Bool). if c then Some (k - length ws) else None) f) ∙ e in
          absurd (let g : ⊥ = cc in g)
    ]

    comes : (fuel k : ℕ) → 2 * length ws ≤ k + fuel → 0 < k → (i : ℕ) → entrant fs ws k ≡ Some i → is_flagged fs i ≡ true
    comes zero k l p i e = from-outer k (omega arith) i e
    comes (suc fuel) k l p i e = elim (split (nat_lt k (length ws))) [
      | inl h ↦
          let lt_is : k < length ws = ltb-true k (length ws) h in
          elim (better-one (entrant fs ws (2 * k)) (entrant fs ws (2 * k + 1)) i (sym (b k p lt_is) ∙ (sym (inner k lt_is) ∙ e))) [
            | inl q ↦ comes fuel (2 * k) (omega arith) (omega arith) i q
            | inr q ↦ comes fuel (2 * k + 1) (omega arith) (omega arith) i q
          ]
      | inr h ↦ from-outer k (let g : length ws ≤ k = ltb-false k (length ws) h in g) i e
    ]

    there : (j : ℕ) → is_flagged fs j ≡ true → entrant fs ws (length ws + j) ≡ Some j
    there j f =
        let e : length ws + j - length ws ≡ j = omega arith in
        outer (length ws + j) (omega arith) ∙ rw (e, f) refl

    pub first-flagged : IsFirstFlagged lt fs (entrant fs ws 1)
    first-flagged = go (entrant fs ws 1) refl
      where
        go : (r : Option ℕ) → entrant fs ws 1 ≡ r → IsFirstFlagged lt fs r
        go None e = λ j. elim (split (is_flagged fs j)) [
          | inl f ↦
              let h = flagged-within fs j f in
              let w = beats (length ws + j) (length ws + j) (omega arith) (omega arith) (omega arith) j (there j f) in
              absurd (let q : None ≡ Some w.0 = sym e ∙ w.1 in let g : ⊥ = cc in g)
          | inr f ↦ f
        ]
        go (Some i) e = (
          comes (2 * length ws) 1 (omega arith) (omega arith) i e,
          λ j f.
              let h = flagged-within fs j f in
              let w = beats (length ws + j) (length ws + j) (omega arith) (omega arith) (omega arith) j (there j f) in
              let q : Some w.0 ≡ Some i = sym w.1 ∙ e in
              let r : w.0 ≡ i = cc in
              subst (λ x. lt j x ≡ false) r w.2,
        )

-- a set flag leaves all places decided but the one above it
pub after-flag : (lt : ℕ → ℕ → Bool) (fs : List Bool) (ws : List (Option ℕ)) (p : ℕ) (r : Bool) → IsBoard lt fs ws → AllBut lt (set fs p r) ws ((length ws + p) / 2)
after-flag lt fs ws p r b k pos h ne =
    b k pos h ∙ ap₂ (better lt) (sym (kept (2 * k) (omega arith))) (sym (kept (2 * k + 1) (omega arith)))
  where
    kept : (j : ℕ) → j ≢ length ws + p → entrant (set fs p r) ws j ≡ entrant fs ws j
    kept j ne = elim (split (nat_lt j (length ws))) [
      | inl l ↦ rw l refl
      | inr l ↦
          let ge : length ws ≤ j = ltb-false j (length ws) l in
          let other : (j - length ws) ≢ p = (λ e. ne (omega arith)) in
          ap (λ (c : Bool). if nat_lt j (length ws) then slice_index_or ws j None else if c then Some (j - length ws) else None) (get_or-set_other fs p (j - length ws) r false other)
    ]

-- a place that is decided leaves all decided but the one above it
pub after-match : (lt : ℕ → ℕ → Bool) (fs : List Bool) (ws : List (Option ℕ)) (q : ℕ) (w : Option ℕ) → 0 < q → q < length ws → AllBut lt fs ws q →
    w ≡ better lt (entrant fs ws (2 * q)) (entrant fs ws (2 * q + 1)) → AllBut lt fs (set ws q w) (q / 2)
after-match lt fs ws q w pos small all is k kp kh ne =
    let kh2 : k < length ws = omega (arith, length-set ws q w) in
    let a : entrant fs (set ws q w) (2 * k) ≡ entrant fs ws (2 * k) = kept (2 * k) (omega arith) in
    let b : entrant fs (set ws q w) (2 * k + 1) ≡ entrant fs ws (2 * k + 1) = kept (2 * k + 1) (omega arith) in
    elim (same k q) [
      | inl e ↦
          let here : slice_index_or (set ws q w) q None ≡ w = get_or-set_same ws q w None small in
          let both : better lt (entrant fs ws (2 * q)) (entrant fs ws (2 * q + 1)) ≡ better lt (entrant fs ws (2 * k)) (entrant fs ws (2 * k + 1)) = ap (λ x. better lt (entrant fs ws (2 * x)) (entrant fs ws (2 * x + 1))) (sym e) in
          ap (λ x. slice_index_or (set ws q w) x None) e ∙ (here ∙ (is ∙ (both ∙ ap₂ (better lt) (sym a) (sym b))))
      | inr e ↦ get_or-set_other ws q k w None e ∙ (all k kp kh2 e ∙ ap₂ (better lt) (sym a) (sym b))
    ]
  where
    kept : (j : ℕ) → j ≢ q → entrant fs (set ws q w) j ≡ entrant fs ws j
    kept j ne = rw (length-set ws q w) (ap (λ (x : Option ℕ). if nat_lt j (length ws) then x else if is_flagged fs (j - length ws) then Some (j - length ws) else None) (get_or-set_other ws q j w None ne))

-- the place itself needs no change where it has its winner
pub after-same : (lt : ℕ → ℕ → Bool) (fs : List Bool) (ws : List (Option ℕ)) (q : ℕ) → AllBut lt fs ws q → slice_index_or ws q None ≡ better lt (entrant fs ws (2 * q)) (entrant fs ws (2 * q + 1)) → IsBoard lt fs ws
after-same lt fs ws q all is k kp kh = elim (same k q) [ inl e ↦ subst (IsDecided lt fs ws) (sym e) is | inr e ↦ all k kp kh e ]

pub within-set : (count : ℕ) (fs : List Bool) (ws : List (Option ℕ)) (q : ℕ) (w : Option ℕ) → Within count fs ws → IfSome w (λ i. i < count) → q < length ws → Within count fs (set ws q w)
within-set count fs ws q w h small there = record {
  flagged = h.flagged;
  winner = λ k i e. elim (same k q) [
    | inl s ↦ go w small (sym (get_or-set_same ws q w None there) ∙ (ap (λ x. slice_index_or (set ws q w) x None) (sym s) ∙ e))
    | inr n ↦ h.winner k i (sym (get_or-set_other ws q k w None n) ∙ e)
  ];
}
  where
    go : {i : ℕ} (o : Option ℕ) → IfSome o (λ i. i < count) → o ≡ Some i → i < count
    go None h e = absurd (let f : ⊥ = cc in f)
    go {i = i} (Some j) h e = let q : j ≡ i = cc in subst (λ x. x < count) q h

pub within-flag : (count : ℕ) (fs : List Bool) (ws : List (Option ℕ)) (p : ℕ) (r : Bool) → Within count fs ws → p < count → Within count (set fs p r) ws
within-flag count fs ws p r h small = record {
  flagged = λ i e. elim (same i p) [ inl s ↦ subst (λ x. x < count) (sym s) small | inr n ↦ h.flagged i (sym (get_or-set_other fs p i r false n) ∙ e) ];
  winner = h.winner;
}

other-test : (k i : ℕ) → k ≢ i → nat_lt k i ≡ nat_lt k (i + 1)
other-test k i n = elim (split (nat_lt k i)) [
  | inl e ↦ let l : k < i = ltb-true k i e in e ∙ sym (lt-ltb k (i + 1) (omega arith))
  | inr e ↦ let l : i ≤ k = ltb-false k i e in e ∙ sym (le-ltb k (i + 1) (omega arith))
]

-- the flags up to i, and one more
pub flag-more : (fs gs : List Bool) (i : ℕ) → ((k : ℕ) → is_flagged fs k ≡ nat_lt k i && is_flagged gs k) → is_flagged gs i ≡ true → i < length fs →
    (k : ℕ) → is_flagged (set fs i true) k ≡ nat_lt k (i + 1) && is_flagged gs k
flag-more fs gs i h g l k = elim (same k i) [
  | inl e ↦ ap (is_flagged (set fs i true)) e ∙ (get_or-set_same fs i true false l ∙ sym (rw (e, lt-ltb i (i + 1) (omega arith), g) refl))
  | inr n ↦ get_or-set_other fs i k true false n ∙ (h k ∙ ap (λ b. b && is_flagged gs k) (other-test k i n))
]

pub flag-skip : (fs gs : List Bool) (i : ℕ) → ((k : ℕ) → is_flagged fs k ≡ nat_lt k i && is_flagged gs k) → is_flagged gs i ≡ false → (k : ℕ) → is_flagged fs k ≡ nat_lt k (i + 1) && is_flagged gs k
flag-skip fs gs i h g k = elim (same k i) [
  | inl e ↦ h k ∙ (ap (λ x. nat_lt k i && x) (ap (is_flagged gs) e ∙ g) ∙ (none (nat_lt k i) ∙ sym (ap (λ x. nat_lt k (i + 1) && x) (ap (is_flagged gs) e ∙ g) ∙ none (nat_lt k (i + 1)))))
  | inr n ↦ h k ∙ ap (λ b. b && is_flagged gs k) (other-test k i n)
]
  where
    none : (b : Bool) → b && false ≡ false
    none true = refl
    none false = refl
