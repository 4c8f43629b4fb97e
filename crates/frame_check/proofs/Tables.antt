-- Roles by pages: a blank page changes no role, and a role that is put is the role of its address alone.
use Rattle.std.proofs.Common.{◌≡◌, ◌≢◌, ℕ, ◌+◌, ◌-◌, ◌*◌, ◌/◌, ◌%◌, ◌==◌, ◌<◌, ◌≤◌, Bool, true, false, cond, nat_lt, List, ◌++◌, length, replicate, get_or, set, take, Option, Some, None, refl, sym, ap, ◌∙◌, arith}
use Rattle.std.proofs.lemmas.List.{get_or-set_same, get_or-set_other, length-set, length-append, length-replicate, get_or_append_left, get_or-append-add, get_or_past, get_or-replicate, take_all}
use Rattle.std.proofs.lemmas.Bool.{eqb-true, eqb-false, ltb-true, ltb-false}
use Rattle.frame_check.specs.declared.roles.Role.{Role}
use Rattle.frame_check.specs.declared.roles.TheConstants.{PAGE_ROLES, NO_ROLE}
use Rattle.frame_check.specs.Roles.{Table, IsTable, Grown, Ready, Put, table, in_page, role_place, role_at, half_role, look}

-- where a halfword has a place, its page has one
pub record Placed (t : Table) (h at : ℕ) : Type 0 where
  pub page : ℕ
  pub is : get_or t.places (h / PAGE_ROLES) None ≡ Some page
  pub place : page * PAGE_ROLES + h % PAGE_ROLES ≡ at

pub placed : (t : Table) (h at : ℕ) → role_place t.places h ≡ Some at → Placed t h at
placed t h at e = go (get_or t.places (h / PAGE_ROLES) None) refl e
  where
    go : (o : Option ℕ) → get_or t.places (h / PAGE_ROLES) None ≡ o → in_page o h ≡ Some at → Placed t h at
    go None o e = absurd (cc)
    go (Some q) o e = record { page = q; is = o; place = cc }

pub absent : (places : List (Option ℕ)) (h : ℕ) → role_place places h ≡ None → get_or places (h / PAGE_ROLES) None ≡ None
absent places h e = go (get_or places (h / PAGE_ROLES) None) refl e
  where
    go : (o : Option ℕ) → get_or places (h / PAGE_ROLES) None ≡ o → in_page o h ≡ None → get_or places (h / PAGE_ROLES) None ≡ None
    go None o e = o
    go (Some q) o e = absurd (cc)

-- a place lies among the roles
pub inside : (t : Table) (h at : ℕ) → IsTable t → role_place t.places h ≡ Some at → at < length t.roles
inside t h at x e = let p = placed t h at e in omega (arith, x.within (h / PAGE_ROLES) p.page p.is, p.place)

-- two halfwords with one place are one
pub one_place : (t : Table) (h g at : ℕ) → IsTable t → role_place t.places h ≡ Some at → role_place t.places g ≡ Some at → h ≡ g
one_place t h g at x e f =
    let p = placed t h at e in
    let q = placed t g at f in
    let same : p.page ≡ q.page = omega (arith, p.place, q.place) in
    let page = x.once (h / PAGE_ROLES) (g / PAGE_ROLES) p.page p.is (q.is ∙ ap Some (sym same)) in
    omega (arith, page, p.place, q.place, same)

-- ---- a page is added

pub grown_sound : (old new : Table) (n at : ℕ) → IsTable old → get_or old.places n None ≡ None → Grown old new n at → IsTable new
grown_sound old new n at x none g = record {
  within = λ m q e. within m q e (m == n) refl;
  once = λ m k q e f. once m k q e f (m == n) refl (k == n) refl;
  whole = omega (arith, x.whole, size);
}
  where
    size : length new.roles ≡ length old.roles + PAGE_ROLES
    size = ap length g.roles ∙ length-append old.roles (replicate PAGE_ROLES NO_ROLE) ∙ ap (λ k. length old.roles + k) (length-replicate PAGE_ROLES NO_ROLE)

    last : (m q : ℕ) → m ≡ n → get_or new.places m None ≡ Some q → q ≡ length old.roles / PAGE_ROLES
    last m q same e =
        let f : Some q ≡ Some (length old.roles / PAGE_ROLES) = sym e ∙ ap (λ (k : ℕ). get_or new.places k None) same ∙ g.here in
        cc

    before : (m q : ℕ) → (m == n) ≡ false → get_or new.places m None ≡ Some q → get_or old.places m None ≡ Some q
    before m q t e = sym (g.there m (eqb-false m n t)) ∙ e

    within : (m q : ℕ) → get_or new.places m None ≡ Some q → (t : Bool) → (m == n) ≡ t → q * PAGE_ROLES + PAGE_ROLES ≤ length new.roles
    within m q e true t = let l = last m q (eqb-true m n t) e in omega (arith, l, size, x.whole)
    within m q e false t = let l = x.within m q (before m q t e) in omega (arith, l, size)

    once : (m k q : ℕ) → get_or new.places m None ≡ Some q → get_or new.places k None ≡ Some q → (t : Bool) → (m == n) ≡ t → (u : Bool) → (k == n) ≡ u → m ≡ k
    once m k q e f true t true u = eqb-true m n t ∙ sym (eqb-true k n u)
    once m k q e f true t false u =
        let l = last m q (eqb-true m n t) e in
        let w = x.within k q (before k q u f) in
        absurd (omega (arith, l, w))
    once m k q e f false t true u =
        let l = last k q (eqb-true k n u) f in
        let w = x.within m q (before m q t e) in
        absurd (omega (arith, l, w))
    once m k q e f false t false u = x.once m k q (before m q t e) (before k q u f)

pub grown_role : (old new : Table) (n at : ℕ) → IsTable old → get_or old.places n None ≡ None → Grown old new n at → (b : ℕ) → half_role new b ≡ half_role old b
grown_role old new n at x none g b = go (b / PAGE_ROLES == n) refl
  where
    kept : (o : Option ℕ) → role_place old.places b ≡ o → role_at new.roles o ≡ role_at old.roles o
    kept None e = refl
    kept (Some i) e = ap (λ (s : List Role). get_or s i NO_ROLE) g.roles ∙ get_or_append_left old.roles (replicate PAGE_ROLES NO_ROLE) NO_ROLE i (inside old b i x e)

    go : (t : Bool) → (b / PAGE_ROLES == n) ≡ t → half_role new b ≡ half_role old b
    go false t =
        let same : role_place new.places b ≡ role_place old.places b = ap (λ (o : Option ℕ). in_page o b) (g.there (b / PAGE_ROLES) (eqb-false _ _ t)) in
        ap (role_at new.roles) same ∙ kept (role_place old.places b) refl
    go true t =
        let same : b / PAGE_ROLES ≡ n = eqb-true _ _ t in
        let here : role_place new.places b ≡ Some (length old.roles / PAGE_ROLES * PAGE_ROLES + b % PAGE_ROLES) =
        ap (λ (o : Option ℕ). in_page o b) (ap (λ (k : ℕ). get_or new.places k None) same ∙ g.here) in
        let nothing : role_place old.places b ≡ None = ap (λ (o : Option ℕ). in_page o b) (ap (λ (k : ℕ). get_or old.places k None) same ∙ none) in
        let at : length old.roles / PAGE_ROLES * PAGE_ROLES + b % PAGE_ROLES ≡ length old.roles + b % PAGE_ROLES = omega (arith, x.whole) in
        ap (role_at new.roles) (here ∙ ap Some at)
        ∙ ap (λ (s : List Role). get_or s (length old.roles + b % PAGE_ROLES) NO_ROLE) g.roles
        ∙ get_or-append-add old.roles (replicate PAGE_ROLES NO_ROLE) (b % PAGE_ROLES) NO_ROLE
        ∙ blank PAGE_ROLES (b % PAGE_ROLES)
        ∙ sym (ap (role_at old.roles) nothing)
      where
        blank : (n k : ℕ) → get_or (replicate n NO_ROLE) k NO_ROLE ≡ NO_ROLE
        blank n k = by (nat_lt k n) refl
          where
            by : (t : Bool) → nat_lt k n ≡ t → get_or (replicate n NO_ROLE) k NO_ROLE ≡ NO_ROLE
            by true t = get_or-replicate n k NO_ROLE NO_ROLE (ltb-true k n t)
            by false t = get_or_past (replicate n NO_ROLE) k NO_ROLE (let l = ltb-false k n t in omega (arith, l, length-replicate n NO_ROLE))

pub grown_ready : (old new : Table) (h at : ℕ) → IsTable old → role_place old.places h ≡ None → Grown old new (h / PAGE_ROLES) at → Ready old new h (at + h % PAGE_ROLES)
grown_ready old new h at x e g = record {
  place = ap (λ (o : Option ℕ). in_page o h) g.here ∙ ap Some (omega (arith, x.whole, g.begins));
  same = grown_role old new (h / PAGE_ROLES) at x (absent old.places h e) g;
}

-- ---- a role is put

pub set_sound : (t : Table) (at : ℕ) (role : Role) → IsTable t → IsTable (table t.places (set t.roles at role))
set_sound t at role x = record {
  within = λ n q e. omega (arith, x.within n q e, length-set t.roles at role);
  once = x.once;
  whole = ap (λ (k : ℕ). k % PAGE_ROLES) (length-set t.roles at role) ∙ x.whole;
}

pub put_here : (old mid : Table) (a at : ℕ) (role : Role) → IsTable mid → a % 2 ≡ 0 → Ready old mid (a / 2) at → Put old (table mid.places (set mid.roles at role)) a role
unfolding look
put_here old mid a at role x even r = record { here = here; there = there }
  where
    here : look (table mid.places (set mid.roles at role)) a ≡ role
    here =
        let e : (a % 2 == 1) ≡ false = ap (λ (k : ℕ). k == 1) even in
        rw e (ap (role_at (set mid.roles at role)) r.place ∙ get_or-set_same mid.roles at role NO_ROLE (inside mid (a / 2) at x r.place))

    other : (b : ℕ) → (b ≡ a / 2 → ⊥) → (o : Option ℕ) → role_place mid.places b ≡ o → role_at (set mid.roles at role) o ≡ role_at mid.roles o
    other b ne None e = refl
    other b ne (Some i) e =
        get_or-set_other mid.roles at i role NO_ROLE (λ (same : i ≡ at). ne (one_place mid b (a / 2) at x (e ∙ ap Some same) r.place))

    there : (b : ℕ) → b ≢ a → look (table mid.places (set mid.roles at role)) b ≡ look old b
    there b ne = by (b % 2 == 1) refl
      where
        by : (t : Bool) → (b % 2 == 1) ≡ t
            → cond t NO_ROLE (half_role (table mid.places (set mid.roles at role)) (b / 2)) ≡ cond t NO_ROLE (half_role old (b / 2))
        by true t = refl
        by false t =
            let odd : b % 2 ≢ 1 = eqb-false _ _ t in
            other (b / 2) (λ (e : b / 2 ≡ a / 2). ne (omega (arith, e, even, odd))) (role_place mid.places (b / 2)) refl ∙ r.same (b / 2)

-- what is made of roles that a page is added to
pub grown : (places wide new : List (Option ℕ)) (roles filled : List Role) (n page : ℕ) → IsTable (table places roles) → n < length wide
    → ((k : ℕ) → get_or wide k None ≡ get_or places k None) → page ≡ length roles / PAGE_ROLES → new ≡ set wide n (Some page) → filled ≡ roles ++ replicate PAGE_ROLES NO_ROLE
    → Grown (table places roles) (table new filled) n (page * PAGE_ROLES)
grown places wide new roles filled n page x room same e f g = record {
  begins = omega (arith, e, x.whole);
  here = ap (λ (l : List (Option ℕ)). get_or l n None) f ∙ get_or-set_same wide n (Some page) None room ∙ ap Some e;
  there = λ k ne. ap (λ (l : List (Option ℕ)). get_or l k None) f ∙ get_or-set_other wide n k (Some page) None ne ∙ same k;
  roles = g;
}

-- roles with a page of blank ones after them
pub resized : (xs ys : List Role) (n len : ℕ) → n ≡ len + PAGE_ROLES → length xs ≡ len → ys ≡ take n xs ++ replicate (n - len) NO_ROLE → ys ≡ xs ++ replicate PAGE_ROLES NO_ROLE
resized xs ys n len e l f =
    let whole : take n xs ≡ xs = take_all n xs (omega arith) in
    let rest : n - len ≡ PAGE_ROLES = omega arith in
    f ∙ ap (λ (zs : List Role). zs ++ replicate (n - len) NO_ROLE) whole ∙ ap (λ (k : ℕ). xs ++ replicate k NO_ROLE) rest
