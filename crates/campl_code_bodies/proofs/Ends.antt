-- Ends under names and under numbers.
use Rattle.std.proofs.Common.{◌≡◌, ◌≢◌, ◌∙◌, refl, sym, ap, subst, arith, ℕ, suc, ◌+◌, Bool, true, false, List, [], ◌∷◌, ◌++◌, Some, if◌then◌else◌, eqb, eqb-true, eq-eqb, length, slice_get, true≢false}
use Rattle.campl_tree.specs.declared.place.Ident.{Ident}
use Rattle.campl_tree.specs.declared.process.Binder.{Binder}
use Rattle.campl_tree.specs.declared.process.Binder.TheVariants as binder
use Rattle.campl_value.specs.Tree.{Tree}
use Rattle.campl_machine.specs.Names.{End}
use Rattle.campl_types.specs.Names.{Name, same_name, found}
use Rattle.campl_types.specs.Matching.{Bindings}
use Rattle.campl_peel.specs.Terms.{those}
use Rattle.campl_meaning.specs.States as k
use Rattle.campl_meaning.specs.Bodies.{without_end, handed, one_more, bind, bind_all}
use Rattle.campl_code.specs.Numbers.{Numbers, Agrees}
use Rattle.campl_code_bodies.specs.Bodies.{Channels, without, IsSpare, are_numbered, binds, parameter_numbers, channel_numbers}
use Rattle.campl_code_bodies.specs.Commands.{Ends, set_end}
use Rattle.campl_code_bodies.specs.Alike.{Channeled}

pub channeled-found : (x : Name) (cs : Channels) (es : k.Ends) (ends : Ends) (n : ℕ) → Channeled cs es ends → found x cs ≡ Some n → (e : End) × (found x es ≡ Some e) × (ends n ≡ Some e)
channeled-found x [] [] ends n h i = absurd (cc i)
channeled-found x [] (e ∷ es) ends n h i = absurd h
channeled-found x (c ∷ cs) [] ends n h i = absurd h
channeled-found x (c ∷ cs) (e ∷ es) ends n h i = go (same_name x c.0) refl i (channeled-found x cs es ends n h.2)
  where
    go : (b : Bool) → same_name x c.0 ≡ b → (if b then Some c.1 else found x cs) ≡ Some n → (found x cs ≡ Some n → (e : End) × (found x es ≡ Some e) × (ends n ≡ Some e)) → (f : End) × (found x (e ∷ es) ≡ Some f) × (ends n ≡ Some f)
    go true k i later =
        let same : same_name x e.0 ≡ true = subst (λ (y : Name). same_name x y ≡ true) h.0 k in
        let number : n ≡ c.1 = cc i in
        (e.1, ap (λ b. if b then Some e.1 else found x es) same, ap ends number ∙ h.1)
    go false k i later =
        let r = later i in
        let other : same_name x e.0 ≡ false = subst (λ (y : Name). same_name x y ≡ false) h.0 k in
        (r.0, ap (λ b. if b then Some e.1 else found x es) other ∙ r.1, r.2)

pub channeled-without : (x : Name) (cs : Channels) (es : k.Ends) (ends : Ends) → Channeled cs es ends → Channeled (without x cs) (without_end x es) ends
channeled-without x [] [] ends h = tt
channeled-without x [] (e ∷ es) ends h = absurd h
channeled-without x (c ∷ cs) [] ends h = absurd h
channeled-without x (c ∷ cs) (e ∷ es) ends h = go (same_name x c.0) (same_name x e.0) (ap (λ (y : Name). same_name x y) h.0) (channeled-without x cs es ends h.2)
  where
    go : (b d : Bool) → b ≡ d → Channeled (without x cs) (without_end x es) ends → Channeled (if b then without x cs else c ∷ without x cs) (if d then without_end x es else e ∷ without_end x es) ends
    go true true k later = later
    go false false k later = (h.0, h.1, later)
    go true false k later = absurd (true≢false k)
    go false true k later = absurd (true≢false (sym k))

pub channeled-those : (keep : Name → Bool) (cs : Channels) (es : k.Ends) (ends : Ends) → Channeled cs es ends → Channeled (those keep cs) (those keep es) ends
channeled-those keep [] [] ends h = tt
channeled-those keep [] (e ∷ es) ends h = absurd h
channeled-those keep (c ∷ cs) [] ends h = absurd h
channeled-those keep (c ∷ cs) (e ∷ es) ends h = go (keep c.0) (keep e.0) (ap keep h.0) (channeled-those keep cs es ends h.2)
  where
    go : (b d : Bool) → b ≡ d → Channeled (those keep cs) (those keep es) ends → Channeled (if b then c ∷ those keep cs else those keep cs) (if d then e ∷ those keep es else those keep es) ends
    go true true k later = (h.0, h.1, later)
    go false false k later = later
    go true false k later = absurd (true≢false k)
    go false true k later = absurd (true≢false (sym k))

eqb-apart : (n m : ℕ) → n ≢ m → eqb n m ≡ false
eqb-apart n m h = go (eqb n m) refl
  where
    go : (b : Bool) → eqb n m ≡ b → b ≡ false
    go true k = absurd (h (eqb-true n m k))
    go false k = refl

pub set-same : (n : ℕ) (e : End) (ends : Ends) → set_end n e ends n ≡ Some e
set-same n e ends = ap (λ b. if b then Some e else ends n) (eq-eqb n n refl)

pub set-other : (n m : ℕ) (e : End) (ends : Ends) → n ≢ m → set_end n e ends m ≡ ends m
set-other n m e ends h = ap (λ b. if b then Some e else ends m) (eqb-apart n m h)

pub channeled-set : (n : ℕ) (e : End) (cs : Channels) (es : k.Ends) (ends : Ends) → IsSpare n cs → Channeled cs es ends → Channeled cs es (set_end n e ends)
channeled-set n e [] [] ends s h = tt
channeled-set n e [] (f ∷ es) ends s h = h
channeled-set n e (c ∷ cs) [] ends s h = h
channeled-set n e (c ∷ cs) (f ∷ es) ends s h = (h.0, set-other n c.1 e ends s.0 ∙ h.1, channeled-set n e cs es ends s.1 h.2)

pub channeled-append : (cs ds : Channels) (es fs : k.Ends) (ends : Ends) → Channeled cs es ends → Channeled ds fs ends → Channeled (cs ++ ds) (es ++ fs) ends
channeled-append [] ds [] fs ends h i = i
channeled-append [] ds (e ∷ es) fs ends h i = absurd h
channeled-append (c ∷ cs) ds [] fs ends h i = absurd h
channeled-append (c ∷ cs) ds (e ∷ es) fs ends h i = (h.0, h.1, channeled-append cs ds es fs ends h.2 i)

-- Calls

-- the ends of these channels are handed to a process, where they have the numbers from n on
pub channeled-handed : (xs ys : List Ident) (cs : Channels) (es : k.Ends) (ends later : Ends) (ns : List ℕ) (n : ℕ) → are_numbered xs cs ns → length ys ≡ length xs → Channeled cs es ends → ((j m : ℕ) → slice_get ns j ≡ Some m → later (n + j) ≡ ends m)
    → (fs : k.Ends) × (handed ys xs es ≡ Some fs) × Channeled (channel_numbers n ys) fs later
channeled-handed [] [] cs es ends later ns n h l i at = ([], refl, tt)
channeled-handed [] (y ∷ ys) cs es ends later ns n h l i at = absurd (omega (arith, l))
channeled-handed (x ∷ xs) [] cs es ends later ns n h l i at = absurd (omega (arith, l))
channeled-handed (x ∷ xs) (y ∷ ys) cs es ends later ns n h l i at =
    let f = channeled-found x.name cs es ends h.0 i h.3 in
    let here : slice_get ns 0 ≡ Some h.0 = ap (λ l. slice_get l 0) h.2 in
    let zero_up : n ≡ n + 0 = omega arith in
    let r = channeled-handed xs ys cs es ends later h.1 (suc n) h.4 (omega (arith, l)) i
    (λ j m k. let up : suc n + j ≡ n + suc j = omega arith in ap later up ∙ at (suc j) m (ap (λ l. slice_get l (suc j)) h.2 ∙ k)) in (
      (y.name, f.0) ∷ r.0,
      ap (λ o. one_more y.name o (handed ys xs es)) f.1 ∙ ap (λ o. one_more y.name (Some f.0) o) r.1,
      (refl, ap later zero_up ∙ at 0 h.0 here ∙ f.2, r.2),
    )

pub numbered-length : (xs : List Ident) (cs : Channels) (ns : List ℕ) → are_numbered xs cs ns → length ns ≡ length xs
numbered-length [] cs ns h = ap length h
numbered-length (x ∷ xs) cs ns h = ap length h.2 ∙ ap suc (numbered-length xs cs h.1 h.4)

agrees-append : (ns ms : Numbers) (bs cs : Bindings) (frame : List Tree) → Agrees ns bs frame → Agrees ms cs frame → Agrees (ns ++ ms) (bs ++ cs) frame
agrees-append [] ms [] cs frame h i = i
agrees-append [] ms (b ∷ bs) cs frame h i = absurd h
agrees-append (n ∷ ns) ms [] cs frame h i = absurd h
agrees-append (n ∷ ns) ms (b ∷ bs) cs frame h i = (h.0, h.1, agrees-append ns ms bs cs frame h.2 i)

-- the parameters have their values
pub agrees-parameters : (xs : List Binder) (vs : List Tree) (n : ℕ) (frame : List Tree) → length vs ≡ length xs → ((j : ℕ) (t : Tree) → slice_get vs j ≡ Some t → slice_get frame (n + j) ≡ Some t) → Agrees (parameter_numbers n xs) (bind_all xs vs) frame
agrees-parameters [] [] n frame l at = tt
agrees-parameters [] (v ∷ vs) n frame l at = absurd (omega (arith, l))
agrees-parameters (x ∷ xs) [] n frame l at = absurd (omega (arith, l))
agrees-parameters (x ∷ xs) (v ∷ vs) n frame l at =
    agrees-append (parameter_numbers (suc n) xs) (binds x n []) (bind_all xs vs) (bind x v []) frame
    (agrees-parameters xs vs (suc n) frame (omega (arith, l)) (λ j t k. let up : suc n + j ≡ n + suc j = omega arith in ap (slice_get frame) up ∙ at (suc j) t k)) (one x)
  where
    one : (x : Binder) → Agrees (binds x n []) (bind x v []) frame
    one (binder.Variable at' y) = let zero_up : n ≡ n + 0 = omega arith in (refl, ap (slice_get frame) zero_up ∙ at 0 v refl, tt)
    one (binder.Wildcard at') = tt

-- Lists

pub get-behind : {A : Type 0} (xs ys : List A) (n : ℕ) → slice_get (xs ++ ys) (length xs + n) ≡ slice_get ys n
get-behind [] ys n = ap (slice_get ys) (omega arith)
get-behind (x ∷ xs) ys n = let up : suc (length xs) + n ≡ suc (length xs + n) = omega arith in ap (slice_get (x ∷ (xs ++ ys))) up ∙ get-behind xs ys n
