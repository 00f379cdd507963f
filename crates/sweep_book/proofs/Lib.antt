pub mod EnterLaws
pub mod SolveLaws
pub mod CallLaws
