-- A process that learns its partition's stamp tells it to all processes of all partitions that the command accesses, or
-- was told it. Used for what all processes know in a run in which nothing is pending.
use Rattle.std.proofs.Common.{◌≡◌, ◌≢◌, ◌⊎◌, ℕ, inl, inr, true, false, List, ◌++◌, map, Option, Some, None, is_some, refl, sym, ap, subst, ◌∙◌}
use Rattle.std.specs.Prelude.{filter, is_none, not}
use Rattle.std.specs.List.{flat_map}
use Rattle.std.proofs.lemmas.Bool.{not_from_false}
use Rattle.tp_base.proofs.Members.{flat_in, in_left, map_in}
use Rattle.tp_base.proofs.SameNames.{same_name_not}
use Rattle.tp_base.specs.Limits.{IsFrom}
use Rattle.tp_base.specs.Lists.{IsIn}
use Rattle.tp_base.specs.Names.{same_name}
use Rattle.tp_base.specs.declared.names.ActorName.{ActorName}
use Rattle.tp_base.specs.declared.names.ActorName.TheVariants.{Process}
use Rattle.tp_base.specs.declared.names.CommandId.{CommandId}
use Rattle.tp_base.specs.declared.names.Site.{Site}
use Rattle.tp_facts.proofs.AcceptorKept.{carried}
use Rattle.tp_facts.proofs.Facts.{IsGenuine, KeepsCommand}
use Rattle.tp_facts.proofs.StepCases.{SheetStep, decides_fast, decides_by_votes, learns, ProcessStep}
use Rattle.tp_base.proofs.Tables.{kept_with}
use Rattle.tp_ops.specs.declared.command.Command.{Command}
use Rattle.tp_rules.proofs.sent.SendsOfProcess.{stamp}
use Rattle.tp_rules.proofs.lists.Tallies.{in_filter}
use Rattle.tp_rules.proofs.lists.UpTo.{in_up_to}
use Rattle.tp_rules.specs.Acts.{Act, Took}
use Rattle.tp_rules.specs.Addresses.{accessed, message, processes_of, rank_of, site}
use Rattle.tp_rules.specs.Process.{ProcessState, Step, commit_messages}
use Rattle.tp_rules.specs.Sheet.{QuorumRule, Sheet}
use Rattle.tp_base.specs.Tables.{kept_at, with_nth}
use Rattle.tp_topology.specs.Counting.{up_to}
use Rattle.tp_wire.specs.declared.message.Body.TheVariants.{MCommit}
use Rattle.tp_wire.specs.declared.message.Message.{Message}
use Rattle.tp_quiet.proofs.EachSheet.{each_sheet}
use Rattle.tp_quiet.proofs.Served.{Knows}
use Rattle.tp_quiet.proofs.Standing.{has_command_of_member}

-- a commit of a partition was taken
pub record TookCommit (act : Act) (c : Command) (p : ℕ) : Type 0 where
  pub message : Message
  pub stamp_told : ℕ
  pub takes : act ≡ Took message
  pub is : message.body ≡ MCommit c (record { 0 = p }) (stamp stamp_told)

module _ (s : QuorumRule) (me : Site) (of : CommandId → Command) where
  -- told to each process of the partitions that the command accesses, but for the own one
  abbrev pub IsTold : List Message → Command → ℕ → Type 0
  IsTold sent c t = (q r : ℕ) → IsIn q (accessed s.shape c) → IsFrom 1 s.shape.replicas r
      → Process (site q r) ≢ Process me
      → IsIn (message (Process me) (Process (site q r)) (MCommit c me.partition (stamp t))) sent

  abbrev pub LearnsOrTells : Act → List Message → CommandId → Type 0
  LearnsOrTells act out id = ((t : ℕ) × IsTold out (of id) t) ⊎ TookCommit act (of id) me.partition.0

  commits_tell : (c : Command) (t : ℕ) (more : List Message)
      → IsTold (commit_messages s.shape me (Some c) t ++ more) c t
  unfolding commit_messages
  commits_tell c t more q r among range other =
      let all : List ActorName = flat_map (processes_of s.shape) (accessed s.shape c) in
      let names : List ActorName = filter (λ to. not (same_name to (Process me))) all in
      let to : ActorName = Process (site q r) in
      let there : IsIn to all = flat_in (processes_of s.shape) (accessed s.shape c) q to among
      (map_in (λ (rank : ℕ). Process (site q rank)) (up_to s.shape.replicas) r
      (in_up_to s.shape.replicas r range.0 range.1)) in
      let apart : not (same_name to (Process me)) ≡ true =
      not_from_false (same_name to (Process me)) (same_name_not to (Process me) other) in
      in_left (map (λ (x : ActorName). message (Process me) x (MCommit c me.partition (stamp t))) names) more
      (message (Process me) to (MCommit c me.partition (stamp t)))
      (map_in (λ (x : ActorName). message (Process me) x (MCommit c me.partition (stamp t))) names to
      (in_filter (λ (x : ActorName). not (same_name x (Process me))) all to there apart))

  kept_command_told : (id : CommandId) (o : Option Command) (t : ℕ) (more : List Message) → KeepsCommand of id o
      → is_some o ≡ true → IsTold (commit_messages s.shape me o t ++ more) (of id) t
  kept_command_told id None t more keeps some = absurd cc
  kept_command_told id (Some c) t more keeps some =
      subst (λ (d : Command). IsTold (commit_messages s.shape me (Some c) t ++ more) d t) keeps.0
      (commits_tell c t more)

  -- another partition's stamp changes nothing here
  learned_here : (m : Message) (c : Command) (q t : ℕ) (known : List (Option ℕ)) (o : Option ℕ)
      → m.body ≡ MCommit c (record { 0 = q }) (stamp t) → c ≡ of c.id
      → kept_at (with_nth known q (Some t)) me.partition.0 ≡ o → is_some o ≡ true
      → (is_some (kept_at known me.partition.0) ≡ true) ⊎ TookCommit (Took m) (of c.id) me.partition.0
  learned_here m c q t known None e ours is some = absurd cc
  learned_here m c q t known (Some x) e ours is some = elim (kept_with known q me.partition.0 t x is) [
    | inl new ↦ inr (record {
      message = m;
      stamp_told = t;
      takes = refl;
      is = e ∙ ap (λ (d : Command). MCommit d (record { 0 = q }) (stamp t)) ours
          ∙ ap (λ (p : ℕ). MCommit (of c.id) (record { 0 = p }) (stamp t)) (sym new.0);
    })
    | inr old ↦ inl (ap (λ (o : Option ℕ). is_some o) old)
  ]

  sheet_tells : {act : Act} {id : CommandId} {old new : Sheet} {out : List Message} → SheetStep s me act id old new out
      → IsGenuine of act → KeepsCommand of id old.command → (is_none old.put ≡ false → is_some old.command ≡ true)
      → Knows me.partition.0 new → Knows me.partition.0 old ⊎ LearnsOrTells act out id
  sheet_tells {old = old} (decides_fast {m} id t e can full fast last) genuine keeps put known =
      inr (inl (
        _,
        kept_command_told id old.command _ _ keeps
            (has_command_of_member s me.rank.0 (rank_of m.from) old.command can.member),
      ))
  sheet_tells (decides_by_votes base id x e none enough last) genuine keeps put known =
      inr (inl (_, kept_command_told id base.command _ _ keeps (put refl)))
  sheet_tells {old = old} (learns {m} c q t e none last) genuine keeps put known =
      elim (learned_here m c q t old.known (kept_at (with_nth old.known q (Some t)) me.partition.0) e
      (carried of m _ e genuine).0 refl known) [
        | inl before ↦ inl before
        | inr took ↦ inr (inr took)
      ]
  sheet_tells _ genuine keeps put known = inl known

  -- what an act does to each sheet
  pub act_tells : {act : Act} {state : ProcessState} {moved : Step} → ProcessStep s me act state moved
      → IsGenuine of act
      → ((id : CommandId) → KeepsCommand of id (state.sheets id).command)
      → ((id : CommandId) → is_none (state.sheets id).put ≡ false → is_some (state.sheets id).command ≡ true)
      → (id : CommandId) → Knows me.partition.0 (moved.0.sheets id)
      → Knows me.partition.0 (state.sheets id) ⊎ LearnsOrTells act moved.1 id
  act_tells {act} {state} {moved} step genuine keeps put id =
      each_sheet (λ out i sheet. Knows me.partition.0 sheet → Knows me.partition.0 (state.sheets i)
      ⊎ LearnsOrTells act out i)
      s me act state moved step
      (λ i new out change known. sheet_tells change genuine (keeps i) (put i) known)
      (λ out i known. inl known) id
