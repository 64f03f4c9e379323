pub mod MatchSteps
pub mod JoinLemmas
pub mod KeyRuns
pub mod JoinHintLemmas
pub mod JoinCopyLemmas
pub mod RefJoins
