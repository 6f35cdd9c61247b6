pub mod RemovedObject
