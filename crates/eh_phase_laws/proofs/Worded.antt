-- What the words of a type say.
use Rattle.std.proofs.Common.{◌≡◌, ℕ, ◌+◌, ◌%◌, ◌^◌, Bool, true, false, cond, List, length, map, get_or, Option, Some, None, refl, ap, sym, subst, ◌∙◌, arith, eq-eqb, ne_eqb}
use Rattle.std.specs.Prelude.{◌||◌, nat_lt, Result, Ok, Err, option_map}
use Rattle.std.specs.List.{range_with_len}
use Rattle.std.proofs.lemmas.List.FromFn.{get_or-map-range_with_len, length-map-range_with_len}
use Rattle.elf_image.specs.Image.{Image, symbol_in}
use Rattle.eh_types.specs.declared.kind.Base.{Base}
use Rattle.eh_types.specs.declared.kind.TypeKind.{TypeKind}
use Rattle.eh_types.specs.declared.kind.TypeKind.TheVariants.{Other, Fundamental, Class, Si, Vmi, Pointer}
use Rattle.eh_types.specs.declared.fault.TypeFault.{TypeFault}
use Rattle.eh_types.specs.declared.fault.TypeFault.TheVariants.{Writable, NameTooLong}
use Rattle.eh_types.specs.declared.types.TheConstants.{NAME_LIMIT, NAME}
use Rattle.eh_types.specs.Graph.{Row}
use Rattle.eh_types.specs.Words.{word, words_from, name_at}
use Rattle.eh_types.specs.Vtables.{vtables_of, vtable_at, is_at, kind_by}
use Rattle.eh_types.specs.Types.{type_at, kind_at, type_or_fault, row_named, bases_at, base_in, base_by, word_count}
use Rattle.eh_phase_laws.specs.Types.{PointsInto, fundamental, class, single, vmi_vtable_name, pointer, KindsAreTold, VtablesTellKinds, KindsAreRead, words_of, SingleBases, IsBase, ManyBases, OthersHaveNoBases}

-- ---- kinds

points : (image : Image) (name : List ℕ) (w : ℕ) → PointsInto image name w → is_at (vtable_at image name) w ≡ true
points image name w p = ap (λ o. is_at (option_map (λ a. (a + 8) % 2 ^ 32) o) w) p.symbol ∙ eq-eqb _ w (sym p.is)

misses : (image : Image) (name : List ℕ) (w : ℕ) → ¬ (PointsInto image name w) → is_at (vtable_at image name) w ≡ false
misses image name w apart = go (symbol_in image name) refl
  where
    go : (o : Option ℕ) → symbol_in image name ≡ o → is_at (option_map (λ a. (a + 8) % 2 ^ 32) o) w ≡ false
    go None e = refl
    go (Some a) e = ne_eqb ((a + 8) % 2 ^ 32) w (λ h. apart (record { at = a; symbol = e; is = sym h }))

told : (image : Image) (a : ℕ) → KindsAreTold image a (word image.segments a)
unfolding kind_by vtables_of
told image a =
    let w : ℕ = word image.segments a in record {
      fundamentals = λ p. rw (points image fundamental w p) refl;
      classes = λ f p. rw (misses image fundamental w f, points image class w p) refl;
      singles = λ f c p. rw (misses image fundamental w f, misses image class w c, points image single w p) refl;
      manies = λ f c s p. rw (misses image fundamental w f, misses image class w c, misses image single w s, points image vmi_vtable_name w p) refl;
      pointers = λ f c s m p. rw (misses image fundamental w f, misses image class w c, misses image single w s, misses image vmi_vtable_name w m, points image pointer w p) refl;
      others = λ f c s m p. rw (misses image fundamental w f, misses image class w c, misses image single w s, misses image vmi_vtable_name w m, misses image pointer w p) refl;
    }

pub vtables_tell_kinds : VtablesTellKinds
vtables_tell_kinds image a w e = subst (KindsAreTold image a) e (told image a)

-- ---- a type that is read

record IsNamed (image : Image) (a : ℕ) (r : Row) : Type 0 where
  text : List ℕ
  is : r ≡ row_named image a text

row_is : (image : Image) (a : ℕ) (r : Row) → type_at image a ≡ Ok r → IsNamed image a r
unfolding type_at
row_is image a r h = go (words_from image.segments a (word_count image.segments a (kind_at image a))) (name_at image.segments (word image.segments (a + NAME))) h
  where
    by_tests : (n : List ℕ) (b c : Bool) → ◌≡◌ {A = Result Row TypeFault} (cond b (Err (Writable a)) (cond c (Err (NameTooLong a)) (Ok (row_named image a n)))) (Ok r) → IsNamed image a r
    by_tests n true c h = absurd cc
    by_tests n false true h = absurd cc
    by_tests n false false h = record { text = n; is = let e : row_named image a n ≡ r = cc in sym e }

    go : (o : Option Bool) (n : Option (List ℕ × Bool)) → type_or_fault image a o n ≡ Ok r → IsNamed image a r
    go None n h = absurd cc
    go (Some w) None h = absurd cc
    go (Some w) (Some n) h = by_tests n.0 (w || n.1) (nat_lt NAME_LIMIT (length n.0)) h

pub kinds_are_read : KindsAreRead
unfolding row_named
kinds_are_read image a r h = let n = row_is image a r h in (ap (λ (x : Row). x.at) n.is, ap (λ (x : Row). x.kind) n.is)

-- its bases are those of its kind
bases_are : (image : Image) (a : ℕ) (kind : TypeKind) (r : Row) → type_at image a ≡ Ok r → r.kind ≡ kind → r.bases ≡ bases_at image.segments a kind
unfolding row_named
bases_are image a kind r h e =
    let n = row_is image a r h in
    ap (λ (x : Row). x.bases) n.is ∙ ap (bases_at image.segments a) (sym (kinds_are_read image a r h).1 ∙ e)

pub single_bases : SingleBases
single_bases image a base r h e = bases_are image a (Si base) r h e

pub others_have_no_bases : OthersHaveNoBases
others_have_no_bases image a r h = record {
  others = λ e. bases_are image a Other r h e;
  fundamentals = λ e. bases_are image a Fundamental r h e;
  classes = λ e. bases_are image a Class r h e;
  pointers = λ flags pointee e. bases_are image a (Pointer flags pointee) r h e;
}

base_is : (image : Image) (a k : ℕ) → IsBase image a k (base_in image.segments a k)
unfolding base_in base_by
base_is image a k = record { ty = refl; is_virtual = refl; is_public = refl }

pub many_bases : ManyBases
many_bases image a r h e =
    let b : r.bases ≡ map (base_in image.segments a) (range_with_len 0 (word image.segments (a + 12))) = bases_are image a Vmi r h e in record {
      counted = ap length b ∙ length-map-range_with_len (base_in image.segments a) 0 (word image.segments (a + 12));
      each = λ k other inside.
          subst (IsBase image a k) (sym (ap (λ (l : List Base). get_or l k other) b ∙ get_or-map-range_with_len (base_in image.segments a) 0 (word image.segments (a + 12)) k k other inside (let z : 0 + k ≡ k = omega arith in z)))
          (base_is image a k);
    }

-- ---- words

pub count_is : (image : Image) (a : ℕ) (kind : TypeKind) → words_of image a kind ≡ word_count image.segments a kind
count_is image a Other = refl
count_is image a Fundamental = refl
count_is image a Class = refl
count_is image a (Si base) = refl
count_is image a Vmi = refl
count_is image a (Pointer flags pointee) = refl
