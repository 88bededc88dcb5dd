-- The parts at the start stand for the code's start.
use Rattle.std.proofs.Common.{◌≡◌, ◌≢◌, ◌≤◌, ◌<◌, ◌⊎◌, inl, inr, ℕ, zero, suc, ◌+◌, ◌*◌, List, [], ◌∷◌, ◌++◌, Option, Some, None, IsSome, length, refl, sym, ap, subst, ◌∙◌, arith}
use Rattle.std.proofs.Math.Path.{fun_ext}
use Rattle.campl_tree.specs.declared.service.ServiceName.{ServiceName}
use Rattle.campl_machine.specs.Names.{First, Second, End, same_end}
use Rattle.campl_machine.specs.Machine.{Lies, update, both_ways}
use Rattle.campl_meaning.specs.Start as start
use Rattle.campl_cells.specs.Parts.{Tip, near, far, put, written}
use Rattle.campl_cells.specs.Steps.{borne, joined_to}
use Rattle.campl_cells.specs.Starts.{numbers, end_from}
use Rattle.campl_cells.proofs.Puts.{put-both, put-here, put-else, written-else, written-from, written-append}
use Rattle.campl_cells.proofs.Tips.{TipsStand, end-here, end-else}
use Rattle.campl_cells.proofs.Channels.{bearing}
use Rattle.campl_cells.proofs.Nearby.{lies-borne}
use Rattle.campl_cells.proofs.Fresh.{near-far, near-near, far-far, far-near}
use Rattle.campl_cells.specs.Local.{IsEndOf}

-- Names

abbrev pub name : ℕ → End
name = end_from 0

from-near : (k c : ℕ) → end_from k (2 * c) ≡ start.near (k + c)
from-near k zero = ap start.near (let e : k ≡ k + 0 = omega arith in e)
from-near k (suc c) =
    let up : 2 * suc c ≡ suc (suc (2 * c)) = omega arith in
    ap (end_from k) up ∙ (from-near (suc k) c ∙ ap start.near (let e : suc k + c ≡ k + suc c = omega arith in e))

from-far : (k c : ℕ) → end_from k (2 * c + 1) ≡ start.far (k + c)
from-far k zero = ap start.far (let e : k ≡ k + 0 = omega arith in e)
from-far k (suc c) =
    let up : 2 * suc c + 1 ≡ suc (suc (2 * c + 1)) = omega arith in
    ap (end_from k) up ∙ (from-far (suc k) c ∙ ap start.far (let e : suc k + c ≡ k + suc c = omega arith in e))

pub near-named : (c : ℕ) → name (near c) ≡ start.near c
near-named c = from-near 0 c ∙ ap start.near (let e : 0 + c ≡ c = omega arith in e)

pub far-named : (c : ℕ) → name (far c) ≡ start.far c
far-named c = from-far 0 c ∙ ap start.far (let e : 0 + c ≡ c = omega arith in e)

pub from-root : (k e : ℕ) → ((end_from k e).bearer ≡ []) × ((end_from k e).step ≡ 0)
from-root k zero = (refl, refl)
from-root k (suc zero) = (refl, refl)
from-root k (suc (suc e)) = from-root (suc k) e

-- Channels

-- an end of a channel from n on
abbrev Above : ℕ → ℕ → Type 0
Above n k = (c : ℕ) × (n ≤ c) × ((near c ≡ k) ⊎ (far c ≡ k))

above : (n : ℕ) (xs : List ServiceName) (k : ℕ) → IsEndOf (numbers n xs) k → Above n k
above n [] k h = absurd h
above n (x ∷ xs) k (inl e) = (n, (let l : n ≤ n = omega arith in l), inl e)
above n (x ∷ xs) k (inr (inl e)) = (n, (let l : n ≤ n = omega arith in l), inr e)
above n (x ∷ xs) k (inr (inr h)) = let a = above (suc n) xs k h in (a.0, (let l : n ≤ a.0 = omega (arith, a.1) in l), a.2)

abbrev none : ℕ → Option Tip
none e = None

there-above : (n : ℕ) (xs : List ServiceName) (k : ℕ) → IsSome (written (borne (numbers n xs)) none k) → Above n k
there-above n xs k h = elim (written-from (borne (numbers n xs)) none k h) [ inl a ↦ absurd (cc a) | inr l ↦ above n xs k (lies-borne (numbers n xs) k l) ]

-- ends of later channels are others, with other names
later : (n k : ℕ) → Above (suc n) k → (near n ≢ k) × (far n ≢ k) × (name k ≢ name (near n)) × (name k ≢ name (far n))
later n k (c, l, inl e) =
    let apart : n ≢ c = (λ q. let f : ⊥ = omega (arith, l, q) in f) in
    let named : name k ≡ start.near c = ap name (sym e) ∙ near-named c in (
      (λ q. near-near n c apart (q ∙ sym e)),
      (λ q. far-near n c (q ∙ sym e)),
      (λ q. let f : suc c ≡ suc n = ap (λ (x : End). x.channel) (sym named ∙ (q ∙ near-named n)) in let g : ⊥ = omega (arith, l, f) in g),
      (λ q. let f : suc c ≡ suc n = ap (λ (x : End). x.channel) (sym named ∙ (q ∙ far-named n)) in let g : ⊥ = omega (arith, l, f) in g),
    )
later n k (c, l, inr e) =
    let apart : n ≢ c = (λ q. let f : ⊥ = omega (arith, l, q) in f) in
    let named : name k ≡ start.far c = ap name (sym e) ∙ far-named c in (
      (λ q. near-far n c (q ∙ sym e)),
      (λ q. far-far n c apart (q ∙ sym e)),
      (λ q. let f : suc c ≡ suc n = ap (λ (x : End). x.channel) (sym named ∙ (q ∙ near-named n)) in let g : ⊥ = omega (arith, l, f) in g),
      (λ q. let f : suc c ≡ suc n = ap (λ (x : End). x.channel) (sym named ∙ (q ∙ far-named n)) in let g : ⊥ = omega (arith, l, f) in g),
    )

written-under : {A : Type 0} (es : List (ℕ × A)) (i k : ℕ) (x : Option A) (f : ℕ → Option A) → i ≢ k → written es (put i x f) k ≡ written es f k
written-under [] i k x f n = put-else i k x f n
written-under (e ∷ es) i k x f n = ap (λ v. put e.0 (Some e.1) (λ j. v) k) (written-under es i k x f n)

-- a channel's ends may be written before those of others
first-last : (es : List (ℕ × Tip)) (a b : ℕ) (u v : Tip) (f : ℕ → Option Tip) → (Lies es a → ⊥) → (Lies es b → ⊥) → put b (Some v) (put a (Some u) (written es f)) ≡ written (es ++ (b, v) ∷ (a, u) ∷ []) f
first-last es a b u v f na nb = fun_ext (λ k. each k) ∙ sym (written-append es ((b, v) ∷ (a, u) ∷ []) f)
  where
    free-of-both : (k : ℕ) → b ≢ k → a ≢ k → written es (put b (Some v) (put a (Some u) f)) k ≡ written es f k
    free-of-both k nb na = written-under es b k (Some v) (put a (Some u) f) nb ∙ written-under es a k (Some u) f na

    each : (k : ℕ) → put b (Some v) (put a (Some u) (written es f)) k ≡ written es (put b (Some v) (put a (Some u) f)) k
    each k = put-both (λ k o. o ≡ written es (put b (Some v) (put a (Some u) f)) k) b (Some v) (put a (Some u) (written es f)) k
        (sym (written-else es (put b (Some v) (put a (Some u) f)) b nb ∙ put-here b (Some v) (put a (Some u) f)))
        (λ kb. put-both (λ k o. b ≢ k → o ≡ written es (put b (Some v) (put a (Some u) f)) k) a (Some u) (written es f) k
        (λ kb. sym (written-else es (put b (Some v) (put a (Some u) f)) a na ∙ (put-else b a (Some v) (put a (Some u) f) kb ∙ put-here a (Some u) f)))
        (λ ka kb. sym (free-of-both k kb ka)) kb)

tips-none : TipsStand name none (λ e. None) (λ e. [])
tips-none = record {
  partner_is = λ e h. absurd (cc h);
  owed_is = λ e h. absurd (cc h);
  no_end = λ e h. (refl, refl);
  one = λ e f h i q. absurd (cc h);
  peers = record { back = λ e f q. absurd (cc q); other = λ e q. let f : ⊥ = cc q in f };
  carried = λ e. tt;
}

pub tips-start : (n : ℕ) (xs : List ServiceName) → TipsStand name (written (borne (numbers n xs)) none) (update same_end (both_ways (start.wires n xs)) (λ e. None)) (λ e. [])
tips-start n [] = tips-none
tips-start n (x ∷ xs) =
    subst (λ tip. TipsStand name tip partner2 (λ e. [])) (first-last (borne (numbers (suc n) xs)) (near n) (far n) (joined_to (far n)) (joined_to (near n)) none
    (λ l. (later n (near n) (above (suc n) xs (near n) (lies-borne (numbers (suc n) xs) (near n) l))).0 refl)
    (λ l. (later n (far n) (above (suc n) xs (far n) (lies-borne (numbers (suc n) xs) (far n) l))).1 refl))
    (bearing name (written (borne (numbers (suc n) xs)) none) (update same_end (both_ways (start.wires (suc n) xs)) (λ e. None)) partner2 (λ e. []) (tips-start (suc n) xs)
    (near n) (far n)
    (written-else (borne (numbers (suc n) xs)) none (near n) (λ l. (later n (near n) (above (suc n) xs (near n) (lies-borne (numbers (suc n) xs) (near n) l))).0 refl))
    (written-else (borne (numbers (suc n) xs)) none (far n) (λ l. (later n (far n) (above (suc n) xs (far n) (lies-borne (numbers (suc n) xs) (far n) l))).1 refl))
    (near-far n n)
    (λ k h. (later n k (there-above (suc n) xs k h)).2)
    (λ k h. (later n k (there-above (suc n) xs k h)).3)
    two
    (end-here (start.near n) (name (near n)) (Some (start.far n)) rest (λ e. None) (sym (near-named n)) ∙ ap Some (sym (far-named n)))
    (end-else (start.near n) (name (far n)) (Some (start.far n)) rest (λ e. None) (λ q. halves (q ∙ far-named n))
    ∙ (end-here (start.far n) (name (far n)) (Some (start.near n)) (both_ways (start.wires (suc n) xs)) (λ e. None) (sym (far-named n)) ∙ ap Some (sym (near-named n))))
    (λ e a b. end-else (start.near n) e (Some (start.far n)) rest (λ e. None) (λ q. a (near-named n ∙ q))
    ∙ end-else (start.far n) e (Some (start.near n)) (both_ways (start.wires (suc n) xs)) (λ e. None) (λ q. b (far-named n ∙ q))))
  where
    partner2 : End → Option End
    partner2 = update same_end (both_ways (start.wires n (x ∷ xs))) (λ e. None)

    rest : List (End × Option End)
    rest = (start.far n, Some (start.near n)) ∷ both_ways (start.wires (suc n) xs)

    halves : start.near n ≢ start.far n
    halves q = let f : First ≡ Second = ap (λ (x : End). x.half) q in let g : ⊥ = cc f in g

    two : name (near n) ≢ name (far n)
    two q = halves (sym (near-named n) ∙ (q ∙ far-named n))

lies-first : {A : Type 0} (es fs : List (ℕ × A)) (k : ℕ) → Lies es k → Lies (es ++ fs) k
lies-first [] fs k l = absurd l
lies-first (e ∷ es) fs k (inl q) = inl q
lies-first (e ∷ es) fs k (inr l) = inr (lies-first es fs k l)

lies-last : {A : Type 0} (es fs : List (ℕ × A)) (k : ℕ) → Lies fs k → Lies (es ++ fs) k
lies-last [] fs k l = l
lies-last (e ∷ es) fs k l = inr (lies-last es fs k l)

-- the ends of each channel are there
pub ends-there : (n : ℕ) (xs : List ServiceName) (k j : ℕ) → j ≡ n + k → k < length xs → Lies (borne (numbers n xs)) (near j) × Lies (borne (numbers n xs)) (far j)
ends-there n [] k j e l = absurd (let f : ⊥ = omega (arith, l) in f)
ends-there n (x ∷ xs) zero j e l =
    let q : n ≡ j = omega (arith, e) in
    (lies-last (borne (numbers (suc n) xs)) _ (near j) (inr (inl (ap near q))), lies-last (borne (numbers (suc n) xs)) _ (far j) (inl (ap far q)))
ends-there n (x ∷ xs) (suc k) j e l =
    let a = ends-there (suc n) xs k j (omega (arith, e)) (omega (arith, l)) in
    (lies-first (borne (numbers (suc n) xs)) _ (near j) a.0, lies-first (borne (numbers (suc n) xs)) _ (far j) a.1)
