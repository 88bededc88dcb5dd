-- Writes at different numbers, in either order.
use Rattle.std.proofs.Common.{◌≡◌, ◌≢◌, ◌<◌, inl, inr, ℕ, ◌+◌, ◌/◌, ◌%◌, List, [], ◌∷◌, ◌++◌, Option, Some, None, length, refl, sym, ap, ◌∙◌, arith}
use Rattle.std.proofs.Math.Path.{fun_ext}
use Rattle.campl_machine.specs.Machine.{Lies}
use Rattle.campl_cells.specs.Parts.{Mail, or_bare, owner, put, written}
use Rattle.campl_cells.specs.Steps.{arrives, borne, sent}
use Rattle.campl_cells.specs.Local.{IsEndOf}
use Rattle.campl_cells.proofs.Nearby.{lies-borne}
use Rattle.campl_cells.proofs.Puts.{put-at, put-both, put-else}
use Rattle.campl_parts.specs.Tables.{tips}
use Rattle.campl_steps.specs.declared.config.Config.{Config}
use Rattle.campl_steps.specs.declared.plan.Borne.{Borne}
use Rattle.campl_steps.specs.declared.plan.Borne.TheVariants as b
use Rattle.campl_steps.specs.Configs.{drawn}
use Rattle.campl_steps.specs.Doing.{IsSendThere}
use Rattle.campl_steps.specs.Readiness.{borne_channels}

put-swap : {A : Type 0} (i j : ℕ) (x y : A) (f : ℕ → A) → i ≢ j → put i x (put j y f) ≡ put j y (put i x f)
put-swap i j x y f n = fun_ext (λ k. put-both (λ z v. put i x (put j y f) z ≡ v) j y (put i x f) k
    (put-else i j x (put j y f) n ∙ put-at j j y f refl)
    (λ m. put-both (λ z v. j ≢ z → v ≡ put i x f z) i x (put j y f) k
    (λ o. sym (put-at i i x f refl))
    (λ o p. put-else j k y f p ∙ sym (put-else i k x f o))
    m))

pub put-before : {A : Type 0} (es : List (ℕ × A)) (i : ℕ) (x : A) (f : ℕ → Option A) → (Lies es i → ⊥) → written es (put i (Some x) f) ≡ put i (Some x) (written es f)
put-before [] i x f n = refl
put-before (e ∷ es) i x f n =
    ap (put e.0 (Some e.1)) (put-before es i x f (λ l. n (inr l))) ∙ put-swap e.0 i (Some e.1) (Some x) (written es f) (λ q. n (inl q))

-- what is born has greater numbers than all ends
new-ends : (n k : ℕ) (channels : Borne) → n % 2 ≡ 0 → k < n → IsEndOf (borne_channels (record { child = 0; channel = n / 2; channel2 = n / 2 + 1 }) channels) k → ⊥
new-ends n k b.None e h l = l
new-ends n k b.One e h (inl q) = omega (arith, q, e, h)
new-ends n k b.One e h (inr (inl q)) = omega (arith, q, e, h)
new-ends n k b.One e h (inr (inr l)) = l
new-ends n k b.Two e h (inl q) = omega (arith, q, e, h)
new-ends n k b.Two e h (inr (inl q)) = omega (arith, q, e, h)
new-ends n k b.Two e h (inr (inr (inl q))) = omega (arith, q, e, h)
new-ends n k b.Two e h (inr (inr (inr (inl q)))) = omega (arith, q, e, h)
new-ends n k b.Two e h (inr (inr (inr (inr l)))) = l

module _ (c : Config) (channels : Borne) where
  pub paired-ends : length c.ends.items % 2 ≡ 0
  paired-ends = sym (ap (λ n. n % 2) c.ends.ok.0) ∙ c.paired

  -- no end that is there is born
  pub none-born : (k : ℕ) → k < length c.ends.items → Lies (borne (borne_channels (drawn c) channels)) k → ⊥
  none-born k h l = go channels (lies-borne (borne_channels (drawn c) channels) k l)
    where
      go : (o : Borne) → IsEndOf (borne_channels (drawn c) o) k → ⊥
      go b.None l = l
      go b.One l = new-ends (length c.ends.items) k b.One paired-ends h l
      go b.Two l = new-ends (length c.ends.items) k b.Two paired-ends h l

  -- a message and channels
  pub sent-first : (send : Option (ℕ × Mail)) → IsSendThere c.ends.items send →
      written (borne (borne_channels (drawn c) channels)) (written (sent send (tips c.ends.items)) (tips c.ends.items))
      ≡ written (sent send (tips c.ends.items) ++ borne (borne_channels (drawn c) channels)) (tips c.ends.items)
  sent-first None h = refl
  sent-first (Some s) h =
      let t = tips c.ends.items in
      put-before (borne (borne_channels (drawn c) channels)) (owner t s.0) (arrives s.1 (or_bare (t (owner t s.0)))) t (none-born (owner t s.0) h)
