-- A worked plug, of a process that holds a console as k:
--
--     plug c :: Put(Int | TopBot) of
--         => c -> do
--             put 7 on c
--             halt c
--         c, k => -> do
--             get v on c
--             close c
--             hput ConsoleClose on k
--             halt k
use Rattle.std.proofs.Common.{◌≡◌, ◌∙◌, ◌⊎◌, inl, inr, refl, sym, subst, pos, arith, Bool, true, false, ◌||◌, List, [], ◌∷◌, Some, None, codes}
use Rattle.campl_tree.specs.declared.place.Ident.{Ident}
use Rattle.campl_tree.specs.declared.process.Binder.TheVariants as binder
use Rattle.campl_tree.specs.declared.service.Side.TheVariants.{Input, Output}
use Rattle.campl_tree.specs.Plain.SeqType as s
use Rattle.campl_tree.specs.Plain.ChanType.{Put, TopBot}
use Rattle.campl_tree.specs.Plain.Expr as e
use Rattle.campl_tree.specs.Plain.Process as b
use Rattle.campl_types.specs.Names.{Name, same_name, is_among}
use Rattle.campl_types.specs.Prelude.{prelude}
use Rattle.campl_types.specs.Held.{Held, On, nothing_held, with, HoldsOnly}
use Rattle.campl_types.specs.Headers.{links_in, Divide, IsUsed, times_in, times_out, share}
use Rattle.campl_types.specs.Linear.{IsWellFormed}
use Rattle.campl_types.proofs.Names.{same-turned, split-names}
use Rattle.typing_examples.proofs.Sources.{place, ident, protocol}

abbrev c : Ident
c = ident 1 6 (codes "c")

abbrev k : Ident
k = ident 4 8 (codes "k")

abbrev links : List b.Link
links = record { name = c; channel_type = Put s.Int TopBot } ∷ []

abbrev sender : b.Body
sender = b.Then (b.Put (place 3 9) (e.Number (place 3 13) (pos 7)) c) (b.Halt (place 4 9) (Some c))

abbrev receiver : b.Body
receiver =
    b.Then (b.Get (place 6 9) (binder.Variable (place 6 13) (codes "v")) c)
    (b.Then (b.Close (place 7 9) c) (b.Then (b.Hput (place 8 9) (ident 8 14 (codes "ConsoleClose")) k) (b.Halt (place 9 9) (Some k))))

abbrev parts : b.Parts
parts =
    b.part_then (record { place = place 2 5; inputs = []; outputs = c ∷ [] }) sender
    (b.part_then (record { place = place 5 5; inputs = c ∷ k ∷ []; outputs = [] }) receiver b.no_parts)

abbrev held : Held
held = with (codes "k") (Some (On Input (protocol 1 1 (codes "Console")))) nothing_held

used : (x : Name) → IsUsed (links_in links x) (held x) (times_out x parts) (times_in x parts)
used x = go (split-names x (codes "c")) (split-names x (codes "k"))
  where
    go : (x ≡ codes "c") ⊎ (same_name x (codes "c") ≡ false) → (x ≡ codes "k") ⊎ (same_name x (codes "k") ≡ false) → IsUsed (links_in links x) (held x) (times_out x parts) (times_in x parts)
    go (inl i) other = subst (λ y. IsUsed (links_in links y) (held y) (times_out y parts) (times_in y parts)) (sym i) (refl, refl)
    go (inr i) (inl j) = subst (λ y. IsUsed (links_in links y) (held y) (times_out y parts) (times_in y parts)) (sym j) (refl, refl)
    go (inr i) (inr j) = let turned : same_name (codes "k") x ≡ false = same-turned (codes "k") x ∙ j in rw (i, j, turned) (refl, refl)

divided : Divide (links_in links) held parts
divided = (used, (refl, (refl, tt)))

not-among : (x y : Name) → is_among y (x ∷ []) ≡ false → same_name y x ≡ false
not-among x y i = go (same_name y x) i
  where
    go : (p : Bool) → (p || false) ≡ false → p ≡ false
    go false j = refl
    go true j = j

abbrev receiving : Held
receiving = share (links_in links) held (record { place = place 5 5; inputs = c ∷ k ∷ []; outputs = [] })

-- what the receiver holds at its end
abbrev last : Held
last =
    with (codes "k") (Some (On Input TopBot))
    (with (codes "c") None (with (codes "c") (Some (On Input TopBot)) receiving))

k-alone : HoldsOnly (codes "k" ∷ []) last
k-alone y i = go (not-among (codes "k") y i) (split-names y (codes "c"))
  where
    go : same_name y (codes "k") ≡ false → (y ≡ codes "c") ⊎ (same_name y (codes "c") ≡ false) → last y ≡ None
    go p (inl q) = subst (λ z. last z ≡ None) (sym q) refl
    go p (inr q) =
        let r : same_name (codes "k") y ≡ false = same-turned (codes "k") y ∙ p in
        let t : same_name (codes "c") y ≡ false = same-turned (codes "c") y ∙ q in
        rw (r, t, p, q) refl

c-alone : HoldsOnly (codes "c" ∷ []) (with (codes "c") (Some (On Output TopBot)) (share (links_in links) held (record { place = place 2 5; inputs = []; outputs = c ∷ [] })))
c-alone y i =
    let p = not-among (codes "c") y i in let q : same_name (codes "c") y ≡ false = same-turned (codes "c") y ∙ p in rw (q, p) refl

well-formed : IsWellFormed prelude [] held (b.Plug (place 1 1) links parts)
well-formed = ((omega arith, omega arith), refl, divided, (sends, (receives, tt)))
  where
    sends : IsWellFormed prelude [] (share (links_in links) held (record { place = place 2 5; inputs = []; outputs = c ∷ [] })) sender
    sends = (_, _, _, _, refl, refl, refl, (_, _, refl, refl, c-alone))

    receives : IsWellFormed prelude [] receiving receiver
    receives = (_, _, _, _, refl, refl, (_, _, refl, refl, (_, _, _, _, refl, refl, refl, (_, _, refl, refl, k-alone))))
