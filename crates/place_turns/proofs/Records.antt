-- What the tests of a record say, and that a step of the walk adds little. Assumes nothing.
use Prim.Native.Nat.{ℕ, zero, suc, ◌+◌, ◌≤◌, ◌<◌, ◌^◌}
use native.Mathlib.Omega.{arith}
use mathlib.Core.Path.{◌≡◌, refl, sym}
use mathlib.Core.Bool.{Bool, true, false, cond}
use borrow.Author.Tests.{ltb-false, eqb-true}
use lib.Dec.{ltb, eqb}
use Rattle.answers.specs.Refusal.{◌⊳◌, bad_dimension}
use Rattle.answers.proofs.Laws.{clear_both, clear_dimension}
use Rattle.conelist.specs.declared.Cone.{Cone}
use Rattle.conelist.specs.declared.Place.{Place}
use Rattle.conelist.specs.Layout.{dim, least_dim, block_dim, bad_record}
use Rattle.conelist.proofs.Blocks.{block_most}
use Rattle.place_turns.specs.Walk.{Going}

-- ---- a record that is not refused

tile : (s total : ℕ) → ◌≡◌ {A = ℕ} (cond (eqb s total) 0 3) 0 → s ≡ total
tile s total e = go (eqb s total) refl e
  where
    go : (t : Bool) → eqb s total ≡ t → ◌≡◌ {A = ℕ} (cond t 0 3) 0 → s ≡ total
    go true h e = eqb-true s total h
    go false h e = absurd (omega arith)

few : (n : ℕ) → ◌≡◌ {A = ℕ} (cond (ltb 65536 n) 2 0) 0 → n ≤ 65536
few n e = go (ltb 65536 n) refl e
  where
    go : (t : Bool) → ltb 65536 n ≡ t → ◌≡◌ {A = ℕ} (cond t 2 0) 0 → n ≤ 65536
    go true h e = absurd (omega arith)
    go false h e = ltb-false 65536 n h

pub record Good (total : ℕ) (c : Cone) : Type 0 where
  pub enough : least_dim c.kind ≤ dim c.kind
  pub most : dim c.kind ≤ 4096
  pub tiles : c.start ≡ total
  pub few : total + dim c.kind ≤ 65536

pub good : (total : ℕ) (c : Cone) → bad_record total c ≡ 0 → Good total c
unfolding bad_record
good total c e =
    let r = clear_both _ _ e in
    let s = clear_both _ _ r.1 in
    let d = clear_dimension (least_dim c.kind) (dim c.kind) r.0 in
    record { enough = d.0; most = d.1; tiles = tile c.start total s.0; few = few (total + dim c.kind) s.1 }

-- ---- for the check: of the tests of one record the first that is refused is told, and what is added fits

pub told : {a n : ℕ} (b : ℕ) → 0 < n → n ≡ a → n ≡ a ⊳ b
unfolding ◌⊳◌
told {a = zero} b h e = absurd (omega arith)
told {a = suc a} b h e = e

pub in_all : (least : ℕ) {n : ℕ} → 0 ≡ bad_dimension least n → n ≤ 65536
in_all least e = let d = clear_dimension least _ (sym e) in omega arith

pub entries_fit : (p : Place) (c : Cone) {n : ℕ} → n ≡ dim c.kind → 0 ≡ bad_record p.entries c → p.entries + n < 2 ^ 64
entries_fit p c d e = let g = good p.entries c (sym e) in omega arith

pub blocks_fit : (p : Place) (c : Cone) {m : ℕ} → m ≡ block_dim c.kind → 0 ≡ bad_record p.entries c → Going p → p.blocks + m < 2 ^ 64
blocks_fit p c d e g = let h = good p.entries c (sym e) in omega (arith, block_most c.kind)

pub ruleset turns = (told, in_all, entries_fit, blocks_fit)
