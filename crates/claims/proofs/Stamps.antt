-- The entries to which versions point, in words: an entry stamps a cell exactly where the words say so, and a read is astray exactly where it
-- points to no such entry. By the kind of the entry, and the words for the writes of a number.
use Prim.Native.Nat.{ℕ, ◌≤◌}
use mathlib.Core.Path.{◌≡◌, refl, ap, ◌∙◌}
use mathlib.Core.Logic.{inl, inr}
use mathlib.Core.Bool.{Bool, true, false, not, ◌&&◌}
use mathlib.Core.List.Memᴰ
use mathlib.Core.List.{Memᴰ}
use native.Mathlib.Omega.{arith}
use borrow.Author.Tests.{eqb-true, eqb-false, eq-eqb, not-false}
use lib.Dec.{eqb}
use Rattle.lists.specs.Tests.{and_l, and_r, and-false, both}
use Rattle.lists.specs.Members.{any-in, in-any}
use Rattle.model.specs.Entries.{Write, Read, Entry, plain, numbered, commit, decision, checkpoint, blank, effect, Log, writes_of, of_cell, stamped_by, stamps, pointed_at, astray}
use Rattle.model.specs.Terms.{Stamps, updated, committed, Pointed}
use Rattle.laws.proofs.Agree.{Agree, stamps-agree}
use Rattle.claims.proofs.Terms.{writes_aside, aside-writes}

module _ (log : Log) (e o k : ℕ) where
  of-cell : (w : Write) → of_cell o k w ≡ true → (w.object ≡ o) × (w.key ≡ k)
  of-cell w h = (eqb-true w.object o (and_l (eqb w.object o) (eqb w.key k) h), eqb-true w.key k (and_r (eqb w.object o) (eqb w.key k) h))

  cell-of : (w : Write) → w.object ≡ o → w.key ≡ k → of_cell o k w ≡ true
  cell-of w a b = both (eq-eqb w.object o a) (eq-eqb w.key k b)

  pub stamps-words : stamps log e o k ≡ true → Stamps log e o k
  unfolding stamps
  stamps-words h = let (w, m, c) = any-in (of_cell o k) (stamped_by log e (effect (log.entry e))) h in go (log.entry e) refl w (of-cell w c) m
    where
      go : (x : Entry) → log.entry e ≡ x → (w : Write) → (w.object ≡ o) × (w.key ≡ k) → Memᴰ w (stamped_by log e (effect x)) → Stamps log e o k
      go (plain ws) i w c m = updated ws w i m c.0 c.1
      go (numbered n ws) i w c m = absurd (Memᴰ.not-nil m)
      go (commit n d) i w c m = committed n d w i (writes_aside log n e w m) c.0 c.1
      go (decision r) i w c m = absurd (Memᴰ.not-nil m)
      go (checkpoint x cs) i w c m = absurd (Memᴰ.not-nil m)
      go blank i w c m = absurd (Memᴰ.not-nil m)

  pub words-stamps : Stamps log e o k → stamps log e o k ≡ true
  unfolding stamps
  words-stamps (updated ws w i m a b) = rw i (in-any (of_cell o k) w ws m (cell-of w a b))
  words-stamps (committed n c w i s a b) = rw i (in-any (of_cell o k) w (writes_of log n e) (aside-writes log n e w s) (cell-of w a b))

module _ (log : Log) (x : Read) where
  pub pointed-words : astray log x ≡ false → Pointed log x
  unfolding astray
  pointed-words h = go (eqb x.version 0) refl h
    where
      go : (b : Bool) → eqb x.version 0 ≡ b → (not b && not (stamps log (pointed_at x.version) x.object x.key)) ≡ false → Pointed log x
      go true e i = inl (eqb-true x.version 0 e)
      go false e i =
          let some : x.version ≡ 0 → ⊥ = eqb-false x.version 0 e in
          inr (pointed_at x.version, omega arith, stamps-words log (pointed_at x.version) x.object x.key (not-false _ i))

  pub words-pointed : Pointed log x → astray log x ≡ false
  unfolding astray
  words-pointed (inl e) = ap (λ (v : ℕ). not (eqb v 0) && not (stamps log (pointed_at x.version) x.object x.key)) e
  words-pointed (inr (e, v, s)) =
      let back : pointed_at x.version ≡ e = omega arith in
      let there : stamps log (pointed_at x.version) x.object x.key ≡ true = ap (λ (q : ℕ). stamps log q x.object x.key) back ∙ words-stamps log e x.object x.key s in
      ap (λ (t : Bool). not (eqb x.version 0) && not t) there ∙ and-false (not (eqb x.version 0))

-- what a read points to stays in a log that only grows
pub pointed-on : (log later : Log) (p : ℕ) (x : Read) → Agree later log p → x.version ≤ p → Pointed log x → Pointed later x
pointed-on log later p x a l (inl e) = inl e
pointed-on log later p x a l (inr (e, v, s)) =
    inr (e, v, stamps-words later e x.object x.key (stamps-agree later log e p x.object x.key (omega arith) a ∙ words-stamps log e x.object x.key s))
