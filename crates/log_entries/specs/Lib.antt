pub mod RequestForm
