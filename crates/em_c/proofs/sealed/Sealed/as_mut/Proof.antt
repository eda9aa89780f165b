-- `as_mut` lends the machine, and the seal follows it.
use mathlib.Core.Path.{◌≡◌, refl, sym}
use mathlib.Core.List.{List, [], ◌∷◌}
use Prim.Native.Nat.{ℕ}
use seplogic.Ra.Ura.{Ura}
use base.Fraction.{full_share}
use mir.Syntax.{Body, named, seq, assign, return, place, copy, rv_opd}
use mir.Raw.{raw as bare}
use mir.Val.{Val, vptr}
use base.Logic.{SProp, ent, sep, id⊢}
use base.Fml.{Lft, Share, GName, Fml, ftrue, fsep, flft}
use prog.Memory.{Memory}
use prog.Routine.{Routine}
use prog.Wp.{Env, WpFn, Tables}
use types.Logic.{Logic, sem}
use contract.Monad.{Fun, fact}
use contract.Running.{tables, tables_of}
use sound.WpLaws.{WpFn-mono}
use types.Kit.{‵, raw, ◌⊛◌, some, later, at_ret, ◌$◌, ◌∵◌, !, qed, by, move, keep, drop, use1, join, split, group, pick}
use types.Kit.{rewrite, fsplit, fsplit3, fjoin, fpack, suffices, frame, await, done}
use types.Part.{whole, sub, look_in}
use types.Run.{stop, fld, addr, load, of_opd, first, blocks, exec, returns, enter}
use types.ByLocal.{alloc_all, pass_all, free_all, look_at, get, through, sets, sets_last, env}
use denote.RattleType.{RattleType, owns}
use denote.Exit.{no}
use denote.Memory.{part_at, part_of, raw_all, mem, cell_at}
use denote.RawPtr.{Ptr, block_ptr}
use denote.Ref.{MutBor, MutRef, mut_vals, mut_Tells}
use denote.Signature.{plain, mut_ref_to}
use denote.Steps.{heard, nothing, opens}
use denote.Triple.Clauses.{Clauses}
use denote.Triple.Spec.{triple_of}
use denote.Triple.Table.{entered}
use denote.Triple.Walked.{says, Stays, stay_dropped, walk_of, ends_at, walked, walk_Meets, Goes-spent_ref}
use denote.Follow.{follows, Part, lends_Part}
use Rattle.std.specs.Prelude.{Option, Some, None, IsSome}
use Rattle.std.specs.Global.{Global}
use Rattle.std.proofs.Common.{true≢false}
use Rattle.core.proofs.alloc.Calls.{token}
use Rattle.std_alloc.proofs.BoxSteps.Form.{D, B, R, τ, word, handle}
use Rattle.std_alloc.proofs.BoxSteps.Steps.{box_out, box_in}
use Rattle.em_c.specs.declared.sealed.Sealed.{Sealed}
use Rattle.em_c.specs.declared.tagged.Tagged.{Tagged}
use Rattle.em_c.specs.Lent.{with_machine}
use Rattle.em_c.specs.contracts.tagged.Tagged as tagged
use Rattle.em_c.specs.contracts.sealed.Sealed as sealed
use Rattle.em_c.proofs.tagged.Tagged.TheLaws as laws
use Rattle.em_c.proofs.BoxForm.{E}
use Rattle.em_c.specs.contracts.sealed.Sealed.as_mut as F
use Rattle.em_c.specs.contracts.sealed.Sealed.as_mut.Key.{name as #self}
use Rattle.em_c.proofs.sealed.Sealed.as_mut.Statement as stated
use Rattle.em_c.proofs.sealed.Sealed.as_mut.Code as code

abbrev T : RattleType
T = tagged.the_row

abbrev S : RattleType
S = sealed.the_row

abbrev stayed : Stays (F.ended).signature.params (F.ended).kept
stayed = (stay_dropped (mut_ref_to (0 ∷ []) tt (plain (λ _. S))) no, tt)

abbrev rest : Body
rest = seq (assign (place 0 []) (rv_opd (copy (place 2 [])))) return

abbrev none_held : Option Tagged
none_held = None

as_param : (x : T.Denot) (b o : ℕ) → part_at T full_share x b o ≡ part_at (R E) full_share x b o
as_param x b o j = part_of (raw_all (laws.the_row_laws.one j)) T.own_val full_share x b o

module _ {M : Type 1} {𝓤 : Ura M} (𝓛 : Logic 𝓤) (at_mem : Memory → SProp 𝓤) (run : Routine → Fun 𝓤) (𝓣 : Tables 𝓤
    𝓛.H) where
  open 𝓛 use {H}

  abbrev held : Clauses 𝓤 F.ended
  held = F.clauses 𝓛 at_mem run

  module _ (κ : Lft) (q : Share) (rb ro : ℕ) (γ : GName) (p : Ptr) (a : Global) where
    abbrev seal : Option Tagged → Sealed
    seal machine = record { ptr = p; alloc = a; held = machine }

    abbrev at : Option Tagged → (walk_of 𝓛 F.ended stayed held).Ghost
    at machine =
        let self : MutBor Sealed = record { ref_ptr = (rb, ro); ghost_name = γ; now = seal machine } in
        (((κ, tt), (q, tt), tt, (self, tt), (vptr rb ro ∷ [], tt)), tt)

    abbrev Post : Option Tagged → Val → SProp 𝓤
    Post machine = (walk_of 𝓛 F.ended stayed held).post (at machine)

    module _ (x : Tagged) (b o : ℕ) (hv : Val) where
      abbrev h : Sealed
      h = seal (Some x)

      -- all of the seal but the machine
      abbrev Rest : Fml
      Rest = fsep (fsep (token E.al a (bare (τ E)) (block_ptr b o)) (handle E a hv)) (cell_at full_share S.mir (word E
          hv b o ∷ []) rb ro)

      back : p ≡ block_ptr b o → (w : Tagged)
          → ent 𝓤 (sep 𝓤 (sem 𝓛 ((mem T).own_at w b o)) (sem 𝓛 Rest)) (sem 𝓛 ((mem S).own_at (with_machine h w) rb ro))
      unfolding part_of
      back at_b w =
          let v : D E = record { ptr = p; alloc = a; value = w } in
          qed 𝓛 (‵ (part_at T full_share w b o) ∷ ‵ Rest ∷ []) ∵ rewrite ! 0 (λ (P : Fml). ‵ P) (as_param w b o) refl $
          move ! (1 ∷ []) $ fsplit ! $ fsplit ! $ move ! (3 ∷ []) $
          box_in E ! v b o w at_b refl $ use1 𝓛 (‵ (S.own_val (with_machine h w) (word E hv b o ∷ []))) (id⊢ 𝓤 _) $
          move ! (1 ∷ 0 ∷ []) $ fjoin ! $
          fpack ! (List Val) (λ us. fsep (cell_at full_share S.mir us rb ro) (S.own_val (with_machine h w) us)) (word E
          hv b o ∷ []) $ done !

      abbrev lent : GName → MutBor Tagged
      lent γ' = record { ref_ptr = (b, o); ghost_name = γ'; now = x }

      exits : (γ' : GName)
          → ent 𝓤 (sep 𝓤 (sem 𝓛 ((MutRef (named 0) κ T).own_val (lent γ') (vptr b o ∷ []))) (sep 𝓤 (𝓛.A.lft κ q) (sem 𝓛
          (follows S T γ γ' (with_machine h))))) (Post (Some x) (vptr b o))
      exits γ' =
          qed 𝓛 (‵ ((MutRef (named 0) κ T).own_val (lent γ') (vptr b o ∷ [])) ∷ ‵ (flft κ q) ∷ ‵ (follows S T γ γ'
          (with_machine h)) ∷ []) ∵
          suffices ! _ (ends_at 𝓛 F.ended stayed held (at (Some x)) (vptr b o) (lent γ') (tt, tt) (tt, tt)) $
          nothing ! $ nothing ! $ fjoin ! $ join ! $ nothing ! $ move ! (2 ∷ 0 ∷ []) $ join ! $ join ! $ frame ! $
          says ! refl $ done !

    -- the seal that is borrowed
    abbrev own : Option Tagged → Fml
    own machine =
        let self : MutBor Sealed = record { ref_ptr = (rb, ro); ghost_name = γ; now = seal machine } in
        owns (MutRef (named 0) κ S ∷ []) (self, tt) (vptr rb ro ∷ [], tt)

    each : (machine : Option Tagged)
        → ent 𝓤 ((walk_of 𝓛 F.ended stayed held).pre (at machine)) (WpFn 𝓤 H 𝓣.C 𝓣.Λ code.function (vptr rb ro ∷ [])
        (Post machine))
    each None =
        qed 𝓛 (((‵ (flft κ q) ⊛ ‵ ftrue) ⊛ ‵ (own None)) ∷ raw (fact 𝓤 (IsSome none_held)) ∷ []) ∵
        move ! (1 ∷ []) $ heard ! (IsSome none_held) (λ e. absurd (true≢false (sym e)))
    each (Some x) =
        let d = seal (Some x) in
        qed 𝓛 (((‵ (flft κ q) ⊛ ‵ ftrue) ⊛ ‵ (own (Some x))) ∷ raw (fact 𝓤 (IsSome (Some x))) ∷ []) ∵
        enter ! 𝓣.C 𝓣.Λ code.function (vptr rb ro ∷ []) _ $
        alloc_all ! (λ l. pass_all ! refl ((tt, tt), tt) $
        let En : Env 𝓤 H = env code.function.locals l in
        split ! $ split ! $ move ! (2 ∷ []) $ fsplit ! $ fsplit3 ! $ drop ! $ move ! (0 ∷ 1 ∷ 3 ∷ []) $
        opens ! tt S {h = d} rb ro (λ vs. move ! (1 ∷ []) $
        let v : D E = record { ptr = p; alloc = a; value = x } in
        use1 𝓛 (‵ ((B E).own_val v vs)) (id⊢ 𝓤 _) $
        box_out E ! v vs (λ b o hv at_b ws fa. move ! (1 ∷ 2 ∷ []) $ fjoin ! $ move ! (1 ∷ []) $
        rewrite ! 2 (λ (us : List Val). ‵ (cell_at full_share S.mir us rb ro)) ws refl $
        first ! $ blocks ! $
        sets ! (of_opd ! (load ! (through ! refl (fld ! refl (stop !))) (look_in ! 2 (sub ! 0 refl (whole !))))) refl
        (tt, tt) $
        sets ! (of_opd ! (get ! refl)) refl (tt, tt) $
        sets_last ! (addr ! (through ! refl (stop !))) refl (tt, tt) $
        exec ! 𝓣.C 𝓣.Λ En rest (at_ret En (Post (Some x))) $
        sets ! (of_opd ! (get ! refl)) refl (tt, tt) $
        rewrite ! 0 (λ (P : Fml). ‵ P) (sym (as_param x b o)) refl $
        move ! (1 ∷ 2 ∷ []) $ fjoin ! $ move ! (2 ∷ 3 ∷ 4 ∷ 1 ∷ 0 ∷ []) $ group ! 5 $
        use1 𝓛 (later (some (λ (γ' : GName). raw (Part 𝓛 S T (with_machine d) (named 0) κ q rb ro b o γ (sem 𝓛 (Rest x b
        o hv)) (back x b o hv at_b) x γ'))))
        (lends_Part 𝓛 S T (with_machine d) (named 0) κ q rb ro b o γ (sem 𝓛 (Rest x b o hv)) (back x b o hv at_b)
        (S.coded.code d) (S.coded.code d) x) $ await ! tt $ pick ! (λ γ'.
        returns ! (look_at ! 0 refl) $ free_all ! refl $
        keep ! (0 ∷ []) $ by ! (exits x b o hv γ')))))

pub as_mut_spec : {M : Type 1} → stated.statement M
unfolding tables_of
as_mut_spec 𝓤 𝓛 𝓜 𝓡 wired =
    let 𝓣 : Tables 𝓤 𝓛.H = tables_of 𝓤 𝓛.H 𝓜 (tables 𝓤 𝓛.H 𝓜 𝓡 𝓡.env) in
    let wp = WpFn 𝓤 𝓛.H 𝓣.C 𝓣.Λ code.function in
    let asked = F.clauses 𝓛 𝓜.mem 𝓡.returns in
    entered 𝓤 𝓛.H (triple_of 𝓛 F.signature (F.spec 𝓛 𝓜.mem 𝓡.returns)) 𝓣.C 𝓣.Λ #self code.function (code.unfolded 𝓤
    𝓛.H 𝓜 𝓡 wired)
    (walk_Meets 𝓛 F.ended stayed (Goes-spent_ref 𝓛 1 (0 ∷ []) tt (plain (λ _. S)), tt) asked wp (WpFn-mono 𝓤 𝓛.H 𝓛.laws
    𝓣 code.function)
    (walked 𝓛 F.ended stayed asked wp (λ κs. (mut_vals, tt)) (λ κs. (mut_Tells (named 0) κs.0 S, tt))
    (λ κs qs bounds a g are. each 𝓛 𝓜.mem 𝓡.returns 𝓣 κs.0 qs.0 a.0.ref_ptr.0 a.0.ref_ptr.1 a.0.ghost_name a.0.now.ptr
    a.0.now.alloc a.0.now.held)))
