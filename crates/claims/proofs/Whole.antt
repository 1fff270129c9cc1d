-- The log worked out from offset 0 is the run over its entries, on any log: the same cells, and the same numbers have committed. By induction
-- over the entries; a commit's two tests are the same test. And which numbers those are, in words.
use Prim.Native.Nat.{ℕ, zero, suc, ◌+◌, ◌<◌}
use mathlib.Core.Path.{◌≡◌, refl, ap, ap₂, sym, ◌∙◌, subst, fun_ext}
use mathlib.Core.Bool.{Bool, true, false, cond, ◌&&◌, ◌||◌}
use mathlib.Core.List.{List, [], ◌∷◌}
use native.Mathlib.Omega.{arith}
use borrow.Author.Tests.{eqb-true, eqb-false, eq-eqb}
use lib.Dec.{eqb}
use Rattle.lists.specs.Tests.{or_case, clash}
use Rattle.lists.specs.Sets.{all, mem, within}
use Rattle.model.specs.Entries.{Write, Read, Condition, Entry, plain, numbered, commit, decision, checkpoint, blank, Effect, writes, aside, tries, inert, effect, Log, written_objects, writes_of, named}
use Rattle.model.specs.Table.{Holds, lookup, apply, version_in}
use Rattle.model.specs.Play.{commits_over, Whole, whole_step, whole}
use Rattle.model.specs.Run.{Run, current, commits_now, made_all}
use Rattle.model.specs.Terms.{Won}
use Rattle.model.specs.Claims.{WonExactly}
use Rattle.claims.proofs.Runs.{run_step, run, run-start, run_more, aside_run, version-same}
use Rattle.claims.proofs.Writes.{apply-all}
use Rattle.claims.proofs.Aborts.{aborts-refuses, none-refuses}

-- ---- the two tests of a commit

pub reads-tested : (cells : Holds) (rs : List Read) → all (λ (r : Read). eqb (version_in (cells r.object r.key)) r.version) rs ≡ current cells rs
reads-tested cells [] = refl
reads-tested cells (r ∷ rs) = ap₂ (λ (a b : Bool). a && b) (version-same r.version (cells r.object r.key)) (reads-tested cells rs)

-- numbers that are the same for both pass both tests of names
pub names-tested : (won : List ℕ) (f : ℕ → Bool) (ns : List ℕ) → ((n : ℕ) → mem n won ≡ f n) → within won ns ≡ all f ns
names-tested won f [] e = refl
names-tested won f (n ∷ ns) e = ap₂ (λ (a b : Bool). a && b) (e n) (names-tested won f ns e)

-- ---- one entry more

record Alike (s : Whole) (r : Run) : Type 0 where
  cells : lookup s.cells ≡ r.cells
  won : (n : ℕ) → mem n s.won ≡ r.won n

commits-alike : (s : Whole) (r : Run) (c : Condition) → Alike s r → commits_over (lookup s.cells) s.won c ≡ commits_now r c
unfolding commits_over
commits-alike s r c a =
    ap₂ (λ (x y : Bool). x && y) (reads-tested (lookup s.cells) c.reads ∙ ap (λ (cells : Holds). current cells c.reads) a.cells) (names-tested s.won r.won (named c) a.won)

swap : (x y : Bool) → (x || y) ≡ (y || (x && true))
swap true true = refl
swap true false = refl
swap false true = refl
swap false false = refl

keep : (x y : Bool) → y ≡ (y || (x && false))
keep true true = refl
keep true false = refl
keep false true = refl
keep false false = refl

module _ (log : Log) (p : ℕ) (s : Whole) (a : Alike s (run log p)) where
  made : (ws : List Write) → lookup (apply (written_objects ws) (p + 1) ws s.cells) ≡ made_all (p + 1) ws (run log p).cells
  made ws = fun_ext (λ o. fun_ext (λ k. apply-all (p + 1) ws s.cells o k ∙ ap (λ (f : Holds). made_all (p + 1) ws f o k) a.cells))

  step-alike : (e : Effect) → Alike (whole_step log p s e) (run_step (p + 1) (run log p) e)
  step-alike (writes ws) = record { cells = made ws; won = a.won }
  step-alike (aside n ws) = record { cells = a.cells; won = a.won }
  step-alike (tries n c) = go (commits_over (lookup s.cells) s.won c) (commits_now (run log p) c) (commits-alike s (run log p) c a)
    where
      wrote : Whole
      wrote = record { cells = apply (written_objects (writes_of log n p)) (p + 1) (writes_of log n p) s.cells; won = n ∷ s.won }

      ran : Bool → Run
      ran b = record {
        count = p + 1;
        cells = cond b (made_all (p + 1) ((run log p).aside n) (run log p).cells) (run log p).cells;
        aside = (run log p).aside;
        won = λ m. (run log p).won m || (eqb n m && b);
      }

      go : (x b : Bool) → x ≡ b → Alike (cond x wrote s) (ran b)
      go true true e = record {
        cells = made (writes_of log n p) ∙ ap (λ (ws : List Write). made_all (p + 1) ws (run log p).cells) (sym (aside_run log n p));
        won = λ m. ap (λ (y : Bool). eqb n m || y) (a.won m) ∙ swap (eqb n m) ((run log p).won m);
      }
      go false false e = record { cells = a.cells; won = λ m. a.won m ∙ keep (eqb n m) ((run log p).won m) }
      go true false e = clash true refl e
      go false true e = clash true refl (sym e)
  step-alike inert = record { cells = a.cells; won = a.won }

alike : (log : Log) (p : ℕ) → Alike (whole log p) (run log p)
unfolding whole lookup
alike log zero = subst (Alike (whole log 0)) (sym (run-start log)) (record { cells = fun_ext (λ o. fun_ext (λ k. refl)); won = λ n. refl })
alike log (suc p) = subst (Alike (whole log (suc p))) (sym (run_more log p)) (step-alike log p (whole log p) (alike log p) (effect (log.entry p)))

-- ---- on any log

module _ (log : Log) (p : ℕ) where
  pub whole_cells : (o k : ℕ) → lookup (whole log p).cells o k ≡ (run log p).cells o k
  whole_cells o k = ap (λ (f : Holds). f o k) (alike log p).cells

  pub whole-won : (n : ℕ) → mem n (whole log p).won ≡ (run log p).won n
  whole-won n = (alike log p).won n

-- ---- the numbers that committed, in words

abbrev at : Log → ℕ → Condition → Bool
at log p c = commits_over (lookup (whole log p).cells) (whole log p).won c

module _ (log : Log) (n : ℕ) where
  higher : (p : ℕ) → Won log n p → Won log n (suc p)
  higher p (q, c, l, i, f) = (q, c, omega arith, i, f)

  step_words : (p : ℕ) (e : Entry) → log.entry p ≡ e → (mem n (whole log p).won ≡ true → Won log n p) → mem n (whole_step log p (whole log p) (effect e)).won ≡ true → Won log n (suc p)
  step_words p (plain ws) i ih h = higher p (ih h)
  step_words p (numbered m ws) i ih h = higher p (ih h)
  step_words p (commit m c) i ih h = go (at log p c) refl h
    where
      wrote : Whole
      wrote = record { cells = apply (written_objects (writes_of log m p)) (p + 1) (writes_of log m p) (whole log p).cells; won = m ∷ (whole log p).won }

      go : (b : Bool) → at log p c ≡ b → mem n (cond b wrote (whole log p)).won ≡ true → Won log n (suc p)
      go true e k = or_case (eqb m n) (mem n (whole log p).won) k
          (λ t. (p, c, omega arith, i ∙ ap (λ (x : ℕ). commit x c) (eqb-true m n t), λ x. clash (at log p c) e (aborts-refuses (lookup (whole log p).cells) (whole log p).won c x)))
          (λ t. higher p (ih t))
      go false e k = higher p (ih k)
  step_words p (decision d) i ih h = higher p (ih h)
  step_words p (checkpoint o cs) i ih h = higher p (ih h)
  step_words p blank i ih h = higher p (ih h)

  won-words : (p : ℕ) → mem n (whole log p).won ≡ true → Won log n p
  unfolding whole
  won-words zero h = clash false h refl
  won-words (suc p) h = step_words p (log.entry p) refl (λ k. won-words p k) h

  -- a number stays among them
  stays : (p : ℕ) (s : Whole) (e : Effect) → mem n s.won ≡ true → mem n (whole_step log p s e).won ≡ true
  stays p s (writes ws) h = h
  stays p s (aside m ws) h = h
  stays p s (tries m c) h = go (commits_over (lookup s.cells) s.won c)
    where
      more : (b : Bool) → (b || mem n s.won) ≡ true
      more true = refl
      more false = h

      wrote : Whole
      wrote = record { cells = apply (written_objects (writes_of log m p)) (p + 1) (writes_of log m p) s.cells; won = m ∷ s.won }

      go : (b : Bool) → mem n (cond b wrote s).won ≡ true
      go true = more (eqb m n)
      go false = h
  stays p s inert h = h

  words-won : (p : ℕ) → Won log n p → mem n (whole log p).won ≡ true
  unfolding whole
  words-won zero (q, c, l, i, f) = absurd (omega arith)
  words-won (suc p) (q, c, l, i, f) = go (eqb q p) refl (λ k. words-won p (q, c, k, i, f))
    where
      less : (q ≡ p → ⊥) → q < p
      less d = omega arith

      go : (b : Bool) → eqb q p ≡ b → (q < p → mem n (whole log p).won ≡ true) → mem n (whole_step log p (whole log p) (effect (log.entry p))).won ≡ true
      go true e ih =
          let j : q ≡ p = eqb-true q p e in
          let here : log.entry p ≡ commit n c = ap (λ (x : ℕ). log.entry x) (sym j) ∙ i in
          let through : at log p c ≡ true = ap (λ (x : ℕ). at log x c) (sym j) ∙ none-refuses (lookup (whole log q).cells) (whole log q).won c f in
          rw (here, through, eq-eqb n n refl)
      go false e ih = stays p (whole log p) (effect (log.entry p)) (ih (less (eqb-false q p e)))

pub won-exactly : WonExactly
won-exactly log n p = (won-words log n p, words-won log n p)
