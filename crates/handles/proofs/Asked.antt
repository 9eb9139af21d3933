-- What an answer of `handles::handle_of` tells of the key.
use Rattle.std.proofs.Common.{◌≡◌, refl, ap, Bool, true, false, cond, arith, ℕ}
use Rattle.std.specs.Prelude.{Ok, Err}
use Rattle.lists.specs.Bytes.{Bytes, zeros}
use Rattle.hash.specs.Hash.{hash_of}
use Rattle.hash.specs.declared.Digest.{Digest}
use Rattle.rules.specs.Refusals.{done, too_long}
use Rattle.rules.specs.Calls.{Found, found}
use Rattle.dictionary.specs.Handles.{handle}
use Rattle.dictionary.specs.Calls.{key_long, handle_call}
use Rattle.handles.specs.declared.key.KeyTooLong.{KeyTooLong}
use Rattle.handles.specs.Told.{handle_told}

-- a handle that was given
pub record Given (key : Bytes) (d : Digest) : Type 0 where
  pub short : key_long key ≡ false
  pub is : d.bytes ≡ handle hash_of key

pub given : (key : Bytes) (d : Digest) → handle_told (Ok d) ≡ handle_call hash_of key → Given key d
unfolding handle_call
given key d h = go (key_long key) refl h
  where
    go : (b : Bool) → key_long key ≡ b → found done d.bytes ≡ cond b (found too_long zeros) (found done (handle hash_of key)) → Given key d
    go true e h = let n : ◌≡◌ {A = ℕ} 0 3 = ap (λ (f : Found). f.number) h in absurd (omega arith)
    go false e h = record { short = e; is = ap (λ (f : Found). f.digest) h }

pub refused : (key : Bytes) (e : KeyTooLong) → handle_told (Err e) ≡ handle_call hash_of key → key_long key ≡ true
unfolding handle_call
refused key e h = go (key_long key) refl h
  where
    go : (b : Bool) → key_long key ≡ b → found too_long zeros ≡ cond b (found too_long zeros) (found done (handle hash_of key)) → key_long key ≡ true
    go true e h = e
    go false e h = let n : ◌≡◌ {A = ℕ} 3 0 = ap (λ (f : Found). f.number) h in absurd (omega arith)
