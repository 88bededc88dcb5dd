-- Tables fit any names that are the same for the numbers in use.
use Rattle.std.proofs.Common.{◌≡◌, ◌≢◌, ◌≤◌, ◌<◌, ◌+◌, ◌-◌, ◌*◌, ◌⊎◌, inl, inr, ℕ, zero, suc, Bool, true, false, List, Option, Some, None, length, set, slice_index_or, refl, sym, ap, ap₂, subst, subst₂, ◌∙◌, arith, if◌then◌else◌, nat_lt, get_or-set_other, get_or-set_same}
use Rattle.campl_machine.specs.Names.{Path, Who, Service}
use Rattle.campl_machine.proofs.Updates.{split}
use Rattle.campl_meaning.specs.OneAtATime.{is_before}
use Rattle.campl_order.specs.declared.order.Rank.{Rank}
use Rattle.campl_order.specs.declared.board.Board.{Board}
use Rattle.campl_order.specs.declared.order.Order.{Order}
use Rattle.campl_order.specs.declared.schedule.Schedule.{Schedule}
use Rattle.campl_order.specs.Orders.{Ranked, IsServiceRank, IsProcessRank, IsBorn, IsJump, IsNextService, names_at_start, rank}
use Rattle.campl_order.specs.Boards.{is_flagged, entrant, better, earlier, IsBoard, Within}
use Rattle.campl_order.specs.Waiting.{IsScheduled, AreFlagged, waiter}
use Rattle.campl_order.proofs.Matches.{same}

-- A tree of matches under another order

module _ (lt lt2 : ℕ → ℕ → Bool) (count : ℕ) (alike : (i j : ℕ) → i < count → j < count → lt2 i j ≡ lt i j) where
  better-alike : (a b : Option ℕ) → ((i : ℕ) → a ≡ Some i → i < count) → ((i : ℕ) → b ≡ Some i → i < count) → better lt a b ≡ better lt2 a b
  better-alike None b h k = refl
  better-alike (Some i) None h k = refl
  better-alike (Some i) (Some j) h k = ap (λ (c : Bool). if c then Some j else Some i) (sym (alike j i (k j refl) (h i refl)))

  entrant-within : (fs : List Bool) (ws : List (Option ℕ)) → Within count fs ws → (k i : ℕ) → entrant fs ws k ≡ Some i → i < count
  entrant-within fs ws w k i e = elim (split (nat_lt k (length ws))) [
    | inl l ↦ w.winner k i (let q : slice_index_or ws k None ≡ Some i = rw l at e in q)
    | inr l ↦ elim (split (is_flagged fs (k - length ws))) [
      | inl f ↦
          let q : Some (k - length ws) ≡ Some i = rw (l, f) at e in
          let r : k - length ws ≡ i = cc in
          w.flagged i (subst (λ x. is_flagged fs x ≡ true) r f)
      | inr f ↦ let q : None ≡ Some i = rw (l, f) at e in absurd (let g : ⊥ = cc in g)
    ]
  ]

  board-alike : (fs : List Bool) (ws : List (Option ℕ)) → Within count fs ws → IsBoard lt fs ws → IsBoard lt2 fs ws
  board-alike fs ws w b k pos h = b k pos h ∙ better-alike (entrant fs ws (2 * k)) (entrant fs ws (2 * k + 1)) (λ i. entrant-within fs ws w (2 * k) i) (λ i. entrant-within fs ws w (2 * k + 1) i)

module _ (names names2 : ℕ → Who) (rs : List Rank) (r : Ranked names rs) (alike : (i : ℕ) → i < length rs → names2 i ≡ names i) where
  born-alike : (i : ℕ) → i < length rs → (x : Rank) (path : Path) → IsBorn names i x path → IsBorn names2 i x path
  born-alike i hi x path (inl e) = inl e
  born-alike i hi x path (inr e) = let h = e.0 in inr (h, (e.1.0, alike x.parent (omega (arith, h, hi)) ∙ e.1.1, e.1.2))

  jump-alike : (i : ℕ) → i < length rs → (x : Rank) (path : Path) → IsJump names i x path → IsJump names2 i x path
  jump-alike i hi x path (inl e) = inl e
  jump-alike i hi x path (inr e) = let h = e.0 in inr (h, (e.1.0, e.1.1, alike x.jump (omega (arith, h, hi)) ∙ e.1.2, e.1.3))

  each-alike : (i : ℕ) → i < length rs → IsServiceRank (rank rs i) (names i) ⊎ IsProcessRank names i (rank rs i) (names i) → IsServiceRank (rank rs i) (names2 i) ⊎ IsProcessRank names2 i (rank rs i) (names2 i)
  each-alike i hi (inl s) = inl (s.0, alike i hi ∙ s.1)
  each-alike i hi (inr p) = inr (record {
    path = p.path;
    named = alike i hi ∙ p.named;
    depth = p.depth;
    shallow = p.shallow;
    born = born-alike i hi (rank rs i) p.path p.born;
    jump = jump-alike i hi (rank rs i) p.path p.jump;
  })

  ranked-alike : Ranked names2 rs
  ranked-alike = record {
    each = λ i hi. each-alike i hi (r.each i hi);
    apart = λ i j hi hj e. r.apart i j hi hj (sym (alike i hi) ∙ (e ∙ alike j hj));
    few = r.few;
  }

pub scheduled-alike : (names names2 : ℕ → Who) (s : Schedule) → IsScheduled names s → ((i : ℕ) → i < length s.order.ranks.items → names2 i ≡ names i) → IsScheduled names2 s
scheduled-alike names names2 s z alike = record {
  ranked = ranked-alike names names2 s.order.ranks.items z.ranked alike;
  board = board-alike (earlier names) (earlier names2) (length s.order.ranks.items) (λ i j hi hj. ap₂ is_before (alike i hi) (alike j hj)) s.board.flags.items s.board.winners.items z.within z.board;
  within = z.within;
  room = z.room;
  waiters = z.waiters;
}

-- Flags

pub flagged-next : (flags : List Bool) (count : ℕ) → count < length flags → AreFlagged flags count → AreFlagged (set flags count true) (count + 1)
flagged-next flags count h f i hi = elim (same i count) [
  | inl e ↦ ap (is_flagged (set flags count true)) e ∙ get_or-set_same flags count true false h
  | inr ne ↦ get_or-set_other flags count i true false ne ∙ f i (omega (arith, hi, ne))
]

pub flagged-same : (flags flags2 : List Bool) (count : ℕ) → ((i : ℕ) → is_flagged flags2 i ≡ is_flagged flags i) → AreFlagged flags count → AreFlagged flags2 count
flagged-same flags flags2 count same f i hi = same i ∙ f i hi

-- Names at a start

-- of the numbers behind the first, this one has the service of the number before
pub next-service : (service : ℕ) → IsNextService names_at_start service (suc service)
next-service service = (refl, before)
  where
    before : (i : ℕ) → i < suc service → names_at_start i ≢ Service service
    before zero h e = let f : ⊥ = cc in f
    before (suc i) h e = let q : i ≡ service = cc in let f : ⊥ = omega (arith, h, q) in f

-- What is waited on counts, and not the room for more

pub scheduled-same : (names : ℕ → Who) (s s2 : Schedule) → s2.order ≡ s.order → s2.board ≡ s.board → s2.waiting.items ≡ s.waiting.items → IsScheduled names s → IsScheduled names s2
scheduled-same names s s2 o b w z = record {
  ranked = subst (λ (x : Order). Ranked names x.ranks.items) (sym o) z.ranked;
  board = subst (λ (x : Board). IsBoard (earlier names) x.flags.items x.winners.items) (sym b) z.board;
  within = subst₂ (λ (x : Order) (y : Board). Within (length x.ranks.items) y.flags.items y.winners.items) (sym o) (sym b) z.within;
  room = subst₂ (λ (x : Order) (y : Board). length x.ranks.items ≤ length y.flags.items) (sym o) (sym b) z.room;
  waiters = λ e i h.
      subst (λ (x : Order). i < length x.ranks.items) (sym o) (z.waiters e i (ap (λ (l : List (Option ℕ)). waiter l e) (sym w) ∙ h));
}
