-- Which of two processes stands first, found by going up from both.
use Rattle.std.proofs.Common.{◌≡◌, ◌≢◌, ◌<◌, ◌≤◌, ◌+◌, ◌^◌, ◌⊎◌, inl, inr, ℕ, Bool, true, false, ◌||◌, ◌&&◌, List, [], ◌∷◌, ◌++◌, length, eqb, nat_lt, refl, sym, ap, ap₂, subst, subst₂, ◌∙◌, arith, length-append, append_assoc, append-nil, le-ltb, lt-ltb, le_refl, eq-eqb, eqb-true, true≢false}
use Rattle.std.proofs.lemmas.List.{get_or_append_left, get_or_push}
use Rattle.campl_machine.specs.Names.{Birth, Path, Who, Process, Service, same_birth}
use Rattle.campl_machine.proofs.Same.{same_birth-is, same_birth-refl}
use Rattle.campl_machine.proofs.Updates.{split}
use Rattle.campl_meaning.specs.OneAtATime.{is_birth_before, are_births_before, is_before}
use Rattle.campl_meaning.proofs.Order.{before-itself, WhoLess, who-less, less-who, who-trans, who-itself, who-tell}
use Rattle.campl_order.specs.declared.order.Rank.{Rank}
use Rattle.campl_order.specs.Orders.{Ranked, IsServiceRank, IsProcessRank, IsAbove, IsChild, rank, no_rank, birth, service_depth}
use Rattle.campl_order.specs.Boards.{earlier}
use Rattle.campl_order.proofs.Matches.{IsOrder, same}

none-and : (b : Bool) → b && false ≡ false
none-and true = refl
none-and false = refl

none-or : (b : Bool) → b || false ≡ b
none-or true = refl
none-or false = refl

not-itself : (n : ℕ) → nat_lt n n ≡ false
not-itself n = le-ltb n n (le_refl n)

-- Paths

-- fronts of one length that differ decide
by-fronts : (p q u v : Path) → length p ≡ length q → p ≢ q → are_births_before (p ++ u) (q ++ v) ≡ are_births_before p q
by-fronts [] [] u v l n = absurd (n refl)
by-fronts [] (y ∷ q) u v l n = absurd (let f : ⊥ = omega arith in f)
by-fronts (x ∷ p) [] u v l n = absurd (let f : ⊥ = omega arith in f)
by-fronts (x ∷ p) (y ∷ q) u v l n = elim (split (same_birth x y)) [
  | inl e ↦ ap (λ b. is_birth_before x y || (same_birth x y && b)) (by-fronts p q u v (omega arith) (λ k. n (ap₂ ◌∷◌ (same_birth-is x y e) k)))
  | inr e ↦ rw e refl
]

-- one front doesn't
by-lasts : (p : Path) (a b : Birth) → are_births_before (p ++ a ∷ []) (p ++ b ∷ []) ≡ is_birth_before a b
by-lasts [] a b = ap (λ c. is_birth_before a b || c) (none-and (same_birth a b)) ∙ none-or (is_birth_before a b)
by-lasts (x ∷ p) a b = rw (not-itself x.step, not-itself x.place, none-and (eqb x.step x.step), same_birth-refl x) (by-lasts p a b)

by-steps : (p : Path) (s t : ℕ) → are_births_before (p ++ birth s ∷ []) (p ++ birth t ∷ []) ≡ nat_lt s t
by-steps p s t = by-lasts p (birth s) (birth t) ∙ (ap (λ c. nat_lt s t || c) (none-and (eqb s t)) ∙ none-or (nat_lt s t))

level-paths : (p q : Path) → length p ≡ length q → is_before (Process p) (Process q) ≡ are_births_before p q
level-paths p q l = rw (le-ltb (length p) (length q) (omega arith), eq-eqb (length p) (length q) l) refl

unlike-paths : (p q : Path) → length p ≢ length q → is_before (Process p) (Process q) ≡ nat_lt (length p) (length q)
unlike-paths p q n = elim (split (eqb (length p) (length q))) [
  | inl e ↦ absurd (n (eqb-true (length p) (length q) e))
  | inr e ↦ rw e (none-or (nat_lt (length p) (length q)))
]

empty : (p : Path) → length p ≡ 0 → p ≡ []
empty [] h = refl
empty (x ∷ p) h = absurd (let f : ⊥ = omega arith in f)

-- Processes by number

-- the rank at a number that has a process's depth
module _ (names : ℕ → Who) (rs : List Rank) (r : Ranked names rs) where
  pub process : (i : ℕ) → i < length rs → (rank rs i).depth ≢ service_depth → IsProcessRank names i (rank rs i) (names i)
  process i hi d = elim (r.each i hi) [ inl s ↦ absurd (d s.0) | inr p ↦ p ]

  -- whoever has a process's name has its depth
  pub depth-of : (i : ℕ) → i < length rs → (p : Path) → names i ≡ Process p → ((rank rs i).depth ≡ length p) × ((rank rs i).depth ≢ service_depth)
  depth-of i hi p e = elim (r.each i hi) [
    | inl s ↦ absurd (let w : Process p ≡ Service (rank rs i).born = sym e ∙ s.1 in let f : ⊥ = cc in f)
    | inr q ↦
        let w : Process q.path ≡ Process p = sym q.named ∙ e in
        let same : q.path ≡ p = cc in
        let low = q.shallow in
        let few = r.few in
        (q.depth ∙ ap length same, λ d. let f : ⊥ = omega (arith, low, few, hi, d) in f)
  ]

  -- different depths decide
  pub by-depth : (i j : ℕ) → i < length rs → j < length rs → (rank rs i).depth ≢ (rank rs j).depth → nat_lt (rank rs i).depth (rank rs j).depth ≡ is_before (names i) (names j)
  by-depth i j hi hj ne = elim (r.each i hi) [
    | inl s ↦ elim (r.each j hj) [
      | inl t ↦ absurd (ne (s.0 ∙ sym t.0))
      | inr q ↦
          let low = q.shallow in
          let few = r.few in
          let s0 = s.0 in
          le-ltb (rank rs i).depth (rank rs j).depth (omega (arith, low, few, hj, s0)) ∙ sym (ap₂ is_before s.1 q.named)
    ]
    | inr p ↦ elim (r.each j hj) [
      | inl t ↦
          let low = p.shallow in
          let few = r.few in
          let t0 = t.0 in
          lt-ltb (rank rs i).depth (rank rs j).depth (omega (arith, low, few, hi, t0)) ∙ sym (ap₂ is_before p.named t.1)
      | inr q ↦ ap₂ nat_lt p.depth q.depth ∙ (sym (unlike-paths p.path q.path (λ e. ne (p.depth ∙ (e ∙ sym q.depth)))) ∙ sym (ap₂ is_before p.named q.named))
    ]
  ]

  -- services by their numbers
  pub by-service : (i j : ℕ) → i < length rs → j < length rs → (rank rs i).depth ≡ service_depth → (rank rs j).depth ≡ service_depth → nat_lt (rank rs i).born (rank rs j).born ≡ is_before (names i) (names j)
  by-service i j hi hj di dj = elim (r.each i hi) [
    | inr p ↦ absurd (let low = p.shallow in let few = r.few in let f : ⊥ = omega (arith, low, few, hi, di) in f)
    | inl s ↦ elim (r.each j hj) [
      | inr q ↦ absurd (let low = q.shallow in let few = r.few in let f : ⊥ = omega (arith, low, few, hj, dj) in f)
      | inl t ↦ sym (ap₂ is_before s.1 t.1)
    ]
  ]

  -- ancestors of one depth that differ decide
  ancestors : (i j i2 j2 : ℕ) (p q u v s t : Path) → i2 < length rs → j2 < length rs → names i ≡ Process p → names j ≡ Process q → names i2 ≡ Process u → names j2 ≡ Process v →
      p ≡ u ++ s → q ≡ v ++ t → i2 ≢ j2 → length p ≡ length q → length u ≡ length v → is_before (names i2) (names j2) ≡ is_before (names i) (names j)
  ancestors i j i2 j2 p q u v s t hi hj ni nj ni2 nj2 pu qv ne lp lu =
      let apart : u ≢ v = (λ e. ne (r.apart i2 j2 hi hj (ni2 ∙ (ap Process e ∙ sym nj2)))) in
      ap₂ is_before ni2 nj2 ∙ (level-paths u v lu ∙ (sym (by-fronts u v s t lu apart) ∙ (ap₂ are_births_before (sym pu) (sym qv) ∙ (sym (level-paths p q lp) ∙ sym (ap₂ is_before ni nj)))))

-- Two different processes of one depth

-- they decide which of a and b stands first
pub record Up (rs : List Rank) (a b i j : ℕ) : Type 0 where
  pub i_there : i < length rs
  pub j_there : j < length rs
  pub apart : i ≢ j
  pub level : (rank rs i).depth ≡ (rank rs j).depth
  pub process : (rank rs i).depth ≢ service_depth
  pub decides : (names : ℕ → Who) → Ranked names rs → is_before (names i) (names j) ≡ is_before (names a) (names b)

module _ (names : ℕ → Who) (rs : List Rank) (r : Ranked names rs) (a b i j : ℕ) (u : Up rs a b i j) where
  pub pi : IsProcessRank names i (rank rs i) (names i)
  pi = process names rs r i u.i_there u.process

  pub pj : IsProcessRank names j (rank rs j) (names j)
  pj = process names rs r j u.j_there (λ e. u.process (u.level ∙ e))

  lengths : length pi.path ≡ length pj.path
  lengths = sym pi.depth ∙ (u.level ∙ pj.depth)

  -- neither is the first process
  not-first : (rank rs i).depth ≡ 0 → ⊥
  not-first e =
      let x : pi.path ≡ [] = empty pi.path (sym pi.depth ∙ e) in
      let y : pj.path ≡ [] = empty pj.path (sym lengths ∙ (sym pi.depth ∙ e)) in
      u.apart (r.apart i j u.i_there u.j_there (pi.named ∙ (ap Process (x ∙ sym y) ∙ sym pj.named)))

  pub parent-i : ((rank rs i).parent < i) × ((above : Path) × (names (rank rs i).parent ≡ Process above) × (pi.path ≡ above ++ birth (rank rs i).born ∷ []))
  parent-i = elim pi.born [ inl e ↦ absurd (not-first e.0) | inr e ↦ e ]

  pub parent-j : ((rank rs j).parent < j) × ((above : Path) × (names (rank rs j).parent ≡ Process above) × (pj.path ≡ above ++ birth (rank rs j).born ∷ []))
  parent-j = elim pj.born [ inl e ↦ absurd (not-first (u.level ∙ e.0)) | inr e ↦ e ]

  pub jump-i : ((rank rs i).jump < i) × ((above : Path) × (rest : Path) × (names (rank rs i).jump ≡ Process above) × (pi.path ≡ above ++ rest))
  jump-i = elim pi.jump [ inl e ↦ absurd (not-first e.0) | inr e ↦ e ]

  pub jump-j : ((rank rs j).jump < j) × ((above : Path) × (rest : Path) × (names (rank rs j).jump ≡ Process above) × (pj.path ≡ above ++ rest))
  jump-j = elim pj.jump [ inl e ↦ absurd (not-first (u.level ∙ e.0)) | inr e ↦ e ]

  -- so their ancestors at one depth decide
  pub above-decides : (i2 j2 : ℕ) (x y s t : Path) → i2 < length rs → j2 < length rs → names i2 ≡ Process x → names j2 ≡ Process y → pi.path ≡ x ++ s → pj.path ≡ y ++ t → i2 ≢ j2 → length x ≡ length y →
      is_before (names i2) (names j2) ≡ is_before (names a) (names b)
  above-decides i2 j2 x y s t hi hj ni nj pu qv ne l =
      ancestors names rs r i j i2 j2 pi.path pj.path x y s t hi hj pi.named pj.named ni nj pu qv ne lengths l ∙ u.decides names r

  pub siblings-decide : (rank rs i).parent ≡ (rank rs j).parent → nat_lt (rank rs i).born (rank rs j).born ≡ is_before (names a) (names b)
  siblings-decide e =
      let x = parent-i.1 in
      let y = parent-j.1 in
      let w : Process x.0 ≡ Process y.0 = sym x.1 ∙ (ap names e ∙ y.1) in
      let same : x.0 ≡ y.0 = cc in
      sym (by-steps x.0 (rank rs i).born (rank rs j).born)
      ∙ (ap₂ are_births_before (sym x.2) (ap (λ p. p ++ birth (rank rs j).born ∷ []) same ∙ sym y.2)
      ∙ (sym (level-paths pi.path pj.path lengths) ∙ (sym (ap₂ is_before pi.named pj.named) ∙ u.decides names r)))

module _ (rs : List Rank) (known : (names : ℕ → Who) × Ranked names rs) (a b i j : ℕ) (u : Up rs a b i j) where
  pub parent-up : (rank rs i).parent ≢ (rank rs j).parent → Up rs a b (rank rs i).parent (rank rs j).parent
  parent-up ne =
      let names = known.0 in
      let r = known.1 in
      let x = parent-i names rs r a b i j u in
      let y = parent-j names rs r a b i j u in
      let hi = u.i_there in
      let hj = u.j_there in
      let x0 = x.0 in
      let y0 = y.0 in
      let dx = depth-of names rs r (rank rs i).parent (omega (arith, x0, hi)) x.1.0 x.1.1 in
      let dy = depth-of names rs r (rank rs j).parent (omega (arith, y0, hj)) y.1.0 y.1.1 in
      record {
        i_there = omega (arith, x0, hi);
        j_there = omega (arith, y0, hj);
        apart = ne;
        level = dx.0 ∙ (parents-level names r ∙ sym dy.0);
        process = dx.1;
        decides = λ n2 r2.
            let x2 = parent-i n2 rs r2 a b i j u in
            let y2 = parent-j n2 rs r2 a b i j u in
            above-decides n2 rs r2 a b i j u (rank rs i).parent (rank rs j).parent x2.1.0 y2.1.0 _ _ (omega (arith, x0, hi)) (omega (arith, y0, hj)) x2.1.1 y2.1.1 x2.1.2 y2.1.2 ne (parents-level n2 r2);
      }
    where
      parents-level : (names : ℕ → Who) (r : Ranked names rs) → length (parent-i names rs r a b i j u).1.0 ≡ length (parent-j names rs r a b i j u).1.0
      parents-level names r =
          let x = parent-i names rs r a b i j u in
          let y = parent-j names rs r a b i j u in
          let lx = ap length x.1.2 ∙ length-append x.1.0 (birth (rank rs i).born ∷ []) in
          let ly = ap length y.1.2 ∙ length-append y.1.0 (birth (rank rs j).born ∷ []) in
          let l = lengths names rs r a b i j u in
          omega (arith, lx, ly, l)

  pub jump-up : (rank rs i).jump ≢ (rank rs j).jump → (rank rs (rank rs i).jump).depth ≡ (rank rs (rank rs j).jump).depth → Up rs a b (rank rs i).jump (rank rs j).jump
  jump-up ne l =
      let names = known.0 in
      let r = known.1 in
      let x = jump-i names rs r a b i j u in
      let y = jump-j names rs r a b i j u in
      let hi = u.i_there in
      let hj = u.j_there in
      let x0 = x.0 in
      let y0 = y.0 in
      record {
        i_there = omega (arith, x0, hi);
        j_there = omega (arith, y0, hj);
        apart = ne;
        level = l;
        process = (depth-of names rs r (rank rs i).jump (omega (arith, x0, hi)) x.1.0 x.1.2).1;
        decides = λ n2 r2.
            let x2 = jump-i n2 rs r2 a b i j u in
            let y2 = jump-j n2 rs r2 a b i j u in
            let dx = depth-of n2 rs r2 (rank rs i).jump (omega (arith, x0, hi)) x2.1.0 x2.1.2 in
            let dy = depth-of n2 rs r2 (rank rs j).jump (omega (arith, y0, hj)) y2.1.0 y2.1.2 in
            above-decides n2 rs r2 a b i j u (rank rs i).jump (rank rs j).jump x2.1.0 y2.1.0 x2.1.1 y2.1.1 (omega (arith, x0, hi)) (omega (arith, y0, hj)) x2.1.2 y2.1.2 x2.1.3 y2.1.3 ne (sym dx.0 ∙ (l ∙ dy.0));
      }

-- The order of numbers is that of their names, an order

pub earlier-order : (names : ℕ → Who) → IsOrder (earlier names)
earlier-order names = record {
  own = λ i. before-itself (names i);
  through = λ i j k e f. through (names i) (names j) (names k) e f;
  one_way = λ i j e. one-way (names i) (names j) e;
}
  where
    not-less : (u v : Who) → is_before u v ≡ false → WhoLess u v → ⊥
    not-less u v e h = true≢false (sym (less-who u v h) ∙ e)

    one-way : (u v : Who) → is_before u v ≡ true → is_before v u ≡ false
    one-way u v e = elim (split (is_before v u)) [
      | inl f ↦ absurd (who-itself u (who-trans u v u (who-less u v e) (who-less v u f)))
      | inr f ↦ f
    ]

    through : (u v x : Who) → is_before u v ≡ false → is_before v x ≡ false → is_before u x ≡ false
    through u v x e f = elim (split (is_before u x)) [
      | inr g ↦ g
      | inl g ↦
          let h = who-less u x g in
          elim (who-tell u v) [
            | inl k ↦ absurd (not-less u v e k)
            | inr (inl k) ↦ absurd (not-less v x f (subst (λ z. WhoLess z x) k h))
            | inr (inr k) ↦ absurd (not-less v x f (who-trans v u x k h))
          ]
    ]

-- One more process

module _ (names : ℕ → Who) (rs : List Rank) (r : Ranked names rs) where
  -- where the jump of a process leads
  jump-of : (i : ℕ) → i < length rs → (p : Path) → names i ≡ Process p → ((rank rs i).jump ≤ i) × ((above : Path) × (rest : Path) × (names (rank rs i).jump ≡ Process above) × (p ≡ above ++ rest))
  jump-of i hi p e =
      let d = depth-of names rs r i hi p e in
      let q = process names rs r i hi d.1 in
      let w : Process q.path ≡ Process p = sym q.named ∙ e in
      let same : q.path ≡ p = cc in
      elim q.jump [
        | inl j ↦ (let j1 = j.1 in omega (arith, j1), (p, [], ap names j.1 ∙ e, sym (append-nil p)))
        | inr j ↦ (let j0 = j.0 in omega (arith, j0), (j.1.0, j.1.1, j.1.2, sym same ∙ j.1.3))
      ]

  -- the jump of a child
  child-jump : (parent a n : ℕ) (path : Path) (b : Birth) → parent < length rs → parent < n → names parent ≡ Process path → IsAbove rs parent a →
      (a < n) × ((above : Path) × (rest : Path) × (names a ≡ Process above) × (path ++ b ∷ [] ≡ above ++ rest))
  child-jump parent a n path b hp hn e (inl k) = (let k1 = k in omega (arith, k1, hn), (path, b ∷ [], ap names k ∙ e, refl))
  child-jump parent a n path b hp hn e (inr k) =
      let x = jump-of parent hp path e in
      let x0 = x.0 in
      let y = jump-of (rank rs parent).jump (omega (arith, x0, hp)) x.1.0 x.1.2 in
      let y0 = y.0 in (
        (let k1 = k in omega (arith, k1, y0, x0, hn)),
        (
          y.1.0,
          y.1.1 ++ (x.1.1 ++ b ∷ []),
          ap names k ∙ y.1.2,
          ap (λ l. l ++ b ∷ []) (x.1.3 ∙ ap (λ l. l ++ x.1.1) y.1.3) ∙ (append_assoc (y.1.0 ++ y.1.1) x.1.1 (b ∷ []) ∙ append_assoc y.1.0 y.1.1 (x.1.1 ++ b ∷ [])),
        ),
      )

module _ (names : ℕ → Who) (rs : List Rank) (r : Ranked names rs) (parent born : ℕ) (new : Rank) where
  -- a child's rank behind the others
  pub child-ranked : parent < length rs → (rank rs parent).depth ≢ service_depth → length rs < 2 ^ 31 → IsChild names parent born (length rs) →
      new.depth ≡ (rank rs parent).depth + 1 → new.parent ≡ parent → new.born ≡ born → IsAbove rs parent new.jump → Ranked names (rs ++ new ∷ [])
  child-ranked hp d few child nd np nb nj = record {
    each = λ i hi. elim (same i (length rs)) [
      | inl e ↦ inr (subst₂ (λ k x. IsProcessRank names k x (names k)) (sym e) (sym (get_or_push rs new no_rank i (sym e))) own)
      | inr ne ↦
          let l = length-append rs (new ∷ []) in
          let low : i < length rs = omega (arith, hi, l, ne) in
          subst (λ x. IsServiceRank x (names i) ⊎ IsProcessRank names i x (names i)) (sym (get_or_append_left rs (new ∷ []) no_rank i low)) (r.each i low)
    ];
    apart = λ i j hi hj e.
        let l = length-append rs (new ∷ []) in
        elim (same i (length rs)) [
          | inl a ↦ elim (same j (length rs)) [
            | inl b ↦ a ∙ sym b
            | inr b ↦ absurd (child.1 j (omega (arith, hj, l, b)) (sym e ∙ ap names a))
          ]
          | inr a ↦ elim (same j (length rs)) [
            | inl b ↦ absurd (child.1 i (omega (arith, hi, l, a)) (e ∙ ap names b))
            | inr b ↦ r.apart i j (omega (arith, hi, l, a)) (omega (arith, hj, l, b)) e
          ]
        ];
    few = let l = length-append rs (new ∷ []) in omega (arith, l, few);
  }
    where
      q : IsProcessRank names parent (rank rs parent) (names parent)
      q = process names rs r parent hp d

      own : IsProcessRank names (length rs) new (names (length rs))
      own = record {
        path = q.path ++ birth born ∷ [];
        named = child.0 q.path q.named;
        depth = let l = length-append q.path (birth born ∷ []) in let qd = q.depth in omega (arith, nd, l, qd);
        shallow = let s = q.shallow in omega (arith, nd, s, hp);
        born = inr (omega (arith, np, hp), (q.path, ap names np ∙ q.named, ap (λ b. q.path ++ birth b ∷ []) (sym nb)));
        jump = inr (child-jump names rs r parent new.jump (length rs) q.path (birth born) hp hp q.named nj);
      }
